use Rattle.pc_locks.proofs.RowAnswers.{rise_none}
use Rattle.pc_locks.proofs.ends_row.EndsRow.new.Goals as goal

pub invariant_of-result : goal.invariant_of-result
invariant_of-result c = rise_none _ c.new.ensures.items

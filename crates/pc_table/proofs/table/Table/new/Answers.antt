use Rattle.pc_table.proofs.Keeping.{seen_begun}
use Rattle.pc_table.proofs.table.Table.new.Goals as goal

pub returns : goal.returns
returns g c = seen_begun _ _ c.in_ok-entries.ensures.slots c.in_ok-entries.ensures.free

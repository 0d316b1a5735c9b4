use Rattle.std.proofs.Common.{[], length, ap}
use Rattle.pc_kept_log.proofs.LentWriteLaws.{none_of}
use Rattle.pc_kept_log.proofs.lent_writes.LentWrites.none.Goals as goal

pub invariant_of-result : goal.invariant_of-result
invariant_of-result c = ap length (none_of [])

pub returns : goal.returns
returns c = none_of []

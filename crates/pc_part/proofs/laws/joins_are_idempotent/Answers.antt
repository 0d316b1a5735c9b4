use Rattle.pc_part.proofs.JoinLemmas.{joins_are_idempotent}
use Rattle.pc_part.proofs.laws.joins_are_idempotent.Goals as goal

pub returns : goal.returns
returns c = joins_are_idempotent

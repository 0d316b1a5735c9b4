use Rattle.pc_part.proofs.JoinLemmas.{joins_make_no_conflict}
use Rattle.pc_part.proofs.laws.joins_make_no_conflict.Goals as goal

pub returns : goal.returns
returns c = joins_make_no_conflict

use Rattle.pc_phase.proofs.Agreeing.{changes_stay_of}
use Rattle.pc_phase.proofs.laws.changes_stay_of_the_history.Goals as goal

pub returns : goal.returns
returns c = changes_stay_of

use Rattle.pc_model.proofs.AddLaws.{adds_apply}
use Rattle.pc_model.proofs.RightReadLaws.{reads_right}
use Rattle.pc_model.proofs.laws.adds_of_runs_apply.Goals as goal

pub returns : goal.returns
returns c st history legal = adds_apply st.base history (reads_right st history legal)

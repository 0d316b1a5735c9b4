use Rattle.pc_model.proofs.QuietContents.{quiet_contents}
use Rattle.pc_model.proofs.laws.quiet_contents_stay.Goals as goal

pub returns : goal.returns
returns c st history legal quiet past = quiet_contents st history legal quiet past

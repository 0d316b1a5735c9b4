use Rattle.pc_board.proofs.Histories.{claims_rise}
use Rattle.pc_board.proofs.laws.claims_rise.Goals as goal

pub returns : goal.returns
returns c = claims_rise

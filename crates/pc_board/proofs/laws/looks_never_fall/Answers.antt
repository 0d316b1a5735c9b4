use Rattle.pc_board.proofs.Histories.{looks_never_fall}
use Rattle.pc_board.proofs.laws.looks_never_fall.Goals as goal

pub returns : goal.returns
returns c = looks_never_fall

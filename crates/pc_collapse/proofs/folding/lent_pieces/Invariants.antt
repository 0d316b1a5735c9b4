use Rattle.std.proofs.Common.{◌≡◌, take}
use Rattle.pc_collapse.proofs.folding.lent_pieces.Given as goal

abbrev pub invariant-loop-number : goal.invariant-loop-number
invariant-loop-number g l = l.pieces.items ≡ take l.number l.lent

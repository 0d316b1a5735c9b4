use Rattle.std.proofs.Common.{◌≡◌, ◌++◌}
use Rattle.std.specs.Vec.Iter.{into_iter_items}
use Rattle.pc_collapse.proofs.folding.pieces_of.Given as goal

abbrev pub invariant-loop-part : goal.invariant-loop-part
invariant-loop-part g l = l.pieces.items ++ into_iter_items l.part-iterator ≡ l.fn.lent ++ l.fn.own.items

use Rattle.std.proofs.Common.{◌≡◌, None}
use Rattle.std.specs.Vec.Iter.{into_iter_items}
use Rattle.pc_recover.specs.Folding.{joined_on}
use Rattle.pc_recover.proofs.joining.joined_in_turn.Given as goal

-- the parts that are left to join
abbrev pub invariant-loop-part : goal.invariant-loop-part
invariant-loop-part l = joined_on l.joined (into_iter_items l.part-iterator) ≡ joined_on None l.fn.parts.items

use Rattle.std.proofs.Common.{◌≡◌, map, take}
use Rattle.pc_border.proofs.sources.slices_of.Given as goal

abbrev pub invariant-loop-part : goal.invariant-loop-part
invariant-loop-part l = map (λ slice. slice.now) l.slices.items ≡ take l.part-index l.parts

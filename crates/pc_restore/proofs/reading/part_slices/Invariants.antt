use Rattle.std.proofs.Common.{◌≡◌, map, take}
use Rattle.pc_restore.specs.Recoveries.{bytes_of}
use Rattle.pc_restore.proofs.reading.part_slices.Given as goal

abbrev pub invariant-loop-part : goal.invariant-loop-part
invariant-loop-part l = map (λ slice. slice.now) l.slices.items ≡ bytes_of (take l.part-index l.parts)

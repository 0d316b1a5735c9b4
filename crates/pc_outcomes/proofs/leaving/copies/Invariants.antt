use Rattle.std.proofs.Common.{◌≡◌, take}
use Rattle.pc_outcomes.proofs.leaving.copies.Given as goal

abbrev pub invariant-loop-shared : goal.invariant-loop-shared
invariant-loop-shared l = l.copies.items ≡ take l.shared-index l.parts

use Rattle.std.proofs.Common.{◌≡◌, ◌≤◌, length, vec_capacity, take}
use Rattle.pc_taken.proofs.entries.copies_of.Given as goal

abbrev pub invariant-loop-triple : goal.invariant-loop-triple
invariant-loop-triple l = (l.copies.items ≡ take l.triple-index l.triples) × (length l.triples ≤ vec_capacity l.copies)

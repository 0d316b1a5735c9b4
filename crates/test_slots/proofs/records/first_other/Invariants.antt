use Rattle.std.proofs.Common.{◌≡◌, []}
use Rattle.test_slots.proofs.records.first_other.Given as goal

-- no open transaction has written a key
abbrev pub invariant-loop-i : goal.invariant-loop-i
invariant-loop-i l = l.records.pending ≡ []

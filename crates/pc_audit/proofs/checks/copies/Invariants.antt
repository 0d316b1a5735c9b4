use Rattle.std.proofs.Common.{◌≡◌, ◌++◌}
use Rattle.pc_audit.proofs.checks.copies.Given as goal

-- the copies, and what is still to come, are all
abbrev pub invariant-loop-triple : goal.invariant-loop-triple
invariant-loop-triple l = l.copies.items ++ l.triple-iterator ≡ l.fn.triples

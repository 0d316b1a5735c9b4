use Rattle.std.proofs.Common.{◌≡◌, ◌++◌, ◌+◌, ◌≤◌, length, vec_len, vec_capacity}
use Rattle.pc_taken.proofs.entries.copies.Given as goal

-- the copies, and what is still to come, are all; and there is room for these
abbrev pub invariant-loop-triple : goal.invariant-loop-triple
invariant-loop-triple l = record {
  made : l.copies.items ++ l.triple-iterator ≡ l.fn.pass;
  room : vec_len l.copies + length l.triple-iterator ≤ vec_capacity l.copies;
}

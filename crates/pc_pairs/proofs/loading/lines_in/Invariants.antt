use Rattle.std.proofs.Common.{◌≡◌, ◌++◌, map}
use Rattle.pc_pairs.proofs.loading.lines_in.Given as goal

abbrev pub invariant-loop-line : goal.invariant-loop-line
invariant-loop-line l = map (λ w. w.now) l.lines.items ++ l.line-iterator ≡ l.initial.line-iterator

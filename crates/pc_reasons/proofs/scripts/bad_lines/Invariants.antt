use Rattle.std.proofs.Common.{◌≡◌, ◌+◌, ◌++◌, map, drop}
use Rattle.pc_reasons.specs.Scripts.{bad_lines}
use Rattle.pc_reasons.proofs.scripts.bad_lines.Given as goal

abbrev pub invariant-loop-index : goal.invariant-loop-index
invariant-loop-index l = l.bad.items ++ bad_lines (l.index + 1) (drop l.index (map (λ w. w.now) l.lines)) ≡ bad_lines 1 (map (λ w. w.now) l.lines)

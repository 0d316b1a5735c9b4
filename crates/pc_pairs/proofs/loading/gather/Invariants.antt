use Rattle.std.proofs.Common.{◌≡◌, ◌+◌, map, drop}
use Rattle.pc_model.specs.Maps.{empty}
use Rattle.pc_pairs.specs.Loads.{with_lines}
use Rattle.pc_pairs.proofs.loading.gather.Given as goal

abbrev pub invariant-loop-i : goal.invariant-loop-i
invariant-loop-i l = with_lines l.fn.form l.gathered (l.i + 1) (drop l.i (map (λ line. line.now) l.lines)) ≡ with_lines l.fn.form empty 1 (map (λ line. line.now) l.lines)

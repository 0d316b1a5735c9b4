use Rattle.std.proofs.Common.{◌≡◌, map, drop}
use Rattle.std.specs.List.{list_any}
use Rattle.pc_reasons.specs.Workloads.{is_client_line}
use Rattle.pc_reasons.proofs.workloads.has_client.Given as goal

abbrev pub invariant-loop-line : goal.invariant-loop-line
invariant-loop-line l = list_any is_client_line (map (λ w. w.now) (drop l.line-index l.lines)) ≡ list_any is_client_line (map (λ w. w.now) l.lines)

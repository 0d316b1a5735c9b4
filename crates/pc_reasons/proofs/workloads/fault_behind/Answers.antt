use Rattle.std.proofs.Common.{List, [], ℕ, Bor}
use Rattle.std.proofs.lemmas.List.{get_or-map, take-map}
use Rattle.pc_reasons.proofs.workloads.fault_behind.Goals as goal

abbrev none : Bor (List ℕ)
none = record { ref_ptr = (0, 0); now = [] }

pub returns : goal.returns
returns c =
    rw (take-map (λ (w : Bor (List ℕ)). w.now) c.args.count c.args.lines.now, get_or-map (λ (w : Bor (List ℕ)). w.now) c.args.lines.now c.args.count none [] c.requires)
    (rw (c.in_ok-has_client.ensures, c.in_ok-role.ensures) at c.fault_of.ensures)

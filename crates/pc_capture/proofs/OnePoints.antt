-- The part of one point.
use Rattle.std.proofs.Common.{◌≡◌, ◌||◌, ℕ, false, [], ◌∷◌, sym, ap, subst, ◌∙◌}
use Rattle.std.specs.Prelude.{IsTrue}
use Rattle.std.specs.Cmp.{eq_by_cmp_equiv}
use Rattle.pc_model.specs.Sets as set
use Rattle.pc_model.specs.Sets.{number_order}
use Rattle.pc_model.specs.Files.{File}
use Rattle.pc_model.specs.Points.{Triples}
use Rattle.pc_model.proofs.SetLaws.{contains-from_list}

-- the point is one of its own
pub has_point : (part : File) (run point : ℕ) (triples : Triples) → part ≡ record { run = run; points = set.insert set.empty point; triples = triples } → IsTrue (set.contains part.points point)
has_point part run point triples is = subst (λ (file : File). IsTrue (set.contains file.points point)) (sym is)
    (contains-from_list number_order (point ∷ []) point ∙ ap (λ b. b || false) ((eq_by_cmp_equiv number_order.total).refl point))

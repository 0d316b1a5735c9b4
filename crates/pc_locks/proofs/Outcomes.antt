-- How a request is answered, by tests.
use Rattle.std.proofs.Common.{◌≡◌, ℕ, [], ◌∷◌, Bool, true, false, not, ◌&&◌, ◌||◌, refl, ◌∙◌, ap}
use Rattle.std.specs.Prelude.{nat_lt}
use Rattle.std.specs.List.{list_any, list_all}
use Rattle.pc_types.specs.declared.Mode.{Mode}
use Rattle.pc_types.specs.declared.Request.{Request}
use Rattle.pc_model.specs.Locks.{Queue, are_compatible, outcome_of_new}
use Rattle.pc_types.specs.declared.Outcome.TheVariants.{Granted, Queued, Died}
use Rattle.pc_locks.specs.declared.node.Test.TheVariants as test
use Rattle.pc_locks.specs.Tables.{passes}

pub all_is : (p : Request → Bool) (q : Queue) → list_all p q ≡ not (list_any (λ r. not (p r)) q)
all_is p [] = refl
all_is p (r ∷ rs) = by (p r) (all_is p rs)
  where
    by : (b : Bool) → list_all p rs ≡ not (list_any (λ r. not (p r)) rs) → (b && list_all p rs) ≡ not (not b || list_any (λ r. not (p r)) rs)
    by true h = h
    by false h = refl

pub outcome_granted : (q : Queue) (t : ℕ) (mode : Mode) → list_any (passes (test.Conflicts (record { transaction = t; mode = mode; granted = true }))) q ≡ false → Granted ≡ outcome_of_new q t mode
outcome_granted q t mode e =
    let f = all_is (are_compatible (record { transaction = t; mode = mode; granted = true })) q ∙ ap not e in
    rw f

pub outcome_queued : (q : Queue) (t : ℕ) (mode : Mode) → list_any (passes (test.Conflicts (record { transaction = t; mode = mode; granted = true }))) q ≡ true →
    list_any (passes (test.NotYounger t)) q ≡ false → Queued ≡ outcome_of_new q t mode
outcome_queued q t mode e o =
    let f = all_is (are_compatible (record { transaction = t; mode = mode; granted = true })) q ∙ ap not e in
    let g = all_is (λ r. nat_lt t r.transaction) q ∙ ap not o in
    rw (f, g)

pub outcome_died : (q : Queue) (t : ℕ) (mode : Mode) → list_any (passes (test.Conflicts (record { transaction = t; mode = mode; granted = true }))) q ≡ true →
    list_any (passes (test.NotYounger t)) q ≡ true → Died ≡ outcome_of_new q t mode
outcome_died q t mode e o =
    let f = all_is (are_compatible (record { transaction = t; mode = mode; granted = true })) q ∙ ap not e in
    let g = all_is (λ r. nat_lt t r.transaction) q ∙ ap not o in
    rw (f, g)

-- A number that a search doesn't find in a list.
use Rattle.std.proofs.Common.{◌≡◌, ◌≢◌, ◌==◌, ℕ, Bool, true, false, IsTrue, List, [], ◌∷◌, refl, sym, ◌∙◌}
use Rattle.std.proofs.lemmas.Bool.{false≢true, eq-eqb}
use Rattle.std.specs.Prelude.{not, ◌||◌}
use Rattle.std.specs.List.{list_any}
use Rattle.pc_chain.specs.Chains.{Avoids}

pub not_found : (slot : ℕ) (slots : List ℕ) → IsTrue (not (list_any (λ y. y == slot) slots)) → Avoids slot slots
not_found slot [] h = tt
not_found slot (x ∷ xs) h = by_first (x == slot) refl h (not_found slot xs)
  where
    by_first : (b : Bool) → (x == slot) ≡ b → IsTrue (not (b || list_any (λ y. y == slot) xs)) → (IsTrue (not (list_any (λ y. y == slot) xs)) → Avoids slot xs) → (x ≢ slot) × Avoids slot xs
    by_first true e h rest = absurd (false≢true h)
    by_first false e h rest = ((λ (s : x ≡ slot). false≢true (sym e ∙ eq-eqb x slot s)), rest h)

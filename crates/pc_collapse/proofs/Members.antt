-- What lists have.
use Rattle.std.proofs.Common.{◌≡◌, zero, suc, List, [], ◌∷◌, map, ◌⊎◌, inl, inr, ⊎_elim, refl, subst, arith}
use Rattle.std.specs.List.{All, Contains}
use Rattle.std.proofs.lemmas.List.Elements.{All-contains_itself, All-weaker}

pub contains_cases : {X : Type 0} (x : X) (xs : List X) (y : X) → Contains (x ∷ xs) y → (x ≡ y) ⊎ Contains xs y
contains_cases x xs y (zero, within, is) = inl is
contains_cases x xs y (suc k, within, is) = inr (k, omega (arith, within), is)

pub contains_first : {X : Type 0} (x : X) (xs : List X) → Contains (x ∷ xs) x
contains_first x xs = (0, omega arith, refl)

pub contains_more : {X : Type 0} (x : X) (xs : List X) (y : X) → Contains xs y → Contains (x ∷ xs) y
contains_more x xs y (k, within, is) = (suc k, omega (arith, within), is)

-- what holds of each that a list has holds of all
pub all_of_each : {X : Type 0} (P : X → Type 0) (xs : List X) → ((x : X) → Contains xs x → P x) → All P xs
all_of_each P xs each = All-weaker (λ x. Contains xs x) P each xs (All-contains_itself xs)

-- what the images of a list have
pub mapped_has : {X Y : Type 0} (f : X → Y) (xs : List X) (x : X) → Contains xs x → Contains (map f xs) (f x)
mapped_has f [] x there = absurd (let within = there.1 in omega arith)
mapped_has f (one ∷ xs) x there = ⊎_elim (λ (is : one ≡ x). subst (λ y. Contains (f one ∷ map f xs) (f y)) is (contains_first (f one) (map f xs)))
    (λ rest. contains_more (f one) (map f xs) (f x) (mapped_has f xs x rest)) (contains_cases one xs x there)

pub mapped_of : {X Y : Type 0} (f : X → Y) (xs : List X) (y : Y) → Contains (map f xs) y → (x : X) × Contains xs x × (f x ≡ y)
mapped_of f [] y there = absurd (let within = there.1 in omega arith)
mapped_of f (one ∷ xs) y there = ⊎_elim (λ (is : f one ≡ y). (one, contains_first one xs, is))
    (λ rest. let found = mapped_of f xs y rest in (found.0, contains_more one xs found.0 found.1, found.2)) (contains_cases (f one) (map f xs) y there)

-- Slots of which one is written.
use Rattle.std.proofs.Common.{◌≡◌, ◌≢◌, ℕ, zero, suc, ◌<◌, List, [], ◌∷◌, length, set, Option, Some, None, is_some, true, false, refl, arith}
use Rattle.std.proofs.lemmas.Bool.{false≢true}
use Rattle.std.proofs.lemmas.List.{get_or-set_same, get_or-set_other}
use Rattle.pc_chain.specs.Slots.{at, is_full, IsTaken, IsFree}

-- what is written is read, and the rest stays
pub at_here : {X : Type 0} (xs : List (Option X)) (i : ℕ) (v : Option X) → i < length xs → at (set xs i v) i ≡ v
at_here xs i v h = get_or-set_same xs i v None h

pub at_other : {X : Type 0} (xs : List (Option X)) (i j : ℕ) (v : Option X) → j ≢ i → at (set xs i v) j ≡ at xs j
at_other xs i j v n = get_or-set_other xs i j v None n

module _ {T : Type 0} where
  -- a slot that has a record is one of the slots
  pub taken_below : (items : List (Option T)) (id : ℕ) → IsTaken items id → id < length items
  taken_below [] id h = absurd (false≢true h)
  taken_below (x ∷ xs) zero h = omega arith
  taken_below (x ∷ xs) (suc id) h = let r = taken_below xs id h in omega (arith, r)

  -- a slot that has a record is not free
  pub not_both : (o : Option T) → o ≡ None → is_some o ≡ true → ⊥
  not_both None n e = false≢true e
  not_both (Some x) n e = absurd cc

  -- if a slot is free, not each has a record
  pub not_full : (items : List (Option T)) (id : ℕ) → IsFree items id → is_full items ≡ false
  not_full [] id h = absurd (omega (arith, h.0))
  not_full (None ∷ items) id h = refl
  not_full (Some x ∷ items) zero h = absurd (let e : Some x ≡ None = h.1 in cc)
  not_full (Some x ∷ items) (suc id) h = not_full items id (omega (arith, h.0), h.1)

  -- if no slot is free, each has a record
  pub full_where_none : (items : List (Option T)) → ((id : ℕ) → IsFree items id → ⊥) → is_full items ≡ true
  full_where_none [] h = refl
  full_where_none (None ∷ items) h = absurd (h 0 (omega arith, refl))
  full_where_none (Some x ∷ items) h = full_where_none items (λ id f. h (suc id) (omega (arith, f.0), f.1))

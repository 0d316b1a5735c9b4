-- A slot that goes in, sides that are turned, and a slot that goes out.
use Rattle.std.proofs.Common.{◌≡◌, ◌≢◌, ◌↔◌, Bool, false, ℕ, ◌+◌, ◌-◌, List, [], ◌∷◌, ◌++◌, length, Option, Some, None, refl, sym, ◌∙◌, ap, subst, arith}
use Rattle.pc_chain.specs.declared.chain.Chain.{Chain}
use Rattle.pc_chain.specs.Chains.{first_of, rest_of, Avoids, AreDisjoint, IsChain, IsEmpty}
use Rattle.pc_chain.proofs.ChainLaws.{empty_chain}
use Rattle.pc_dirty.specs.declared.side.SideSlot.{SideSlot}
use Rattle.pc_dirty.specs.declared.side.Side.{Side}
use Rattle.pc_dirty.specs.declared.side.Side.TheVariants.{First, Second}
use Rattle.pc_dirty.specs.declared.dirty.Dirty.{Dirty}
use Rattle.pc_dirty.specs.Sets.{other_side, place_on_side, places_of, AreSets}

sides_differ : (side : Side) → side ≢ other_side side
sides_differ First e = cc
sides_differ Second e = cc

pub turned_twice : (side : Side) → other_side (other_side side) ≡ side
turned_twice First = refl
turned_twice Second = refl

pub avoids_places : (side : Side) (slot : ℕ) (slots : List ℕ) → Avoids slot slots → Avoids (place_on_side side slot) (places_of side slots)
avoids_places side slot [] a = tt
avoids_places side slot (x ∷ xs) a = ((λ e. a.0 (ap (λ (p : SideSlot). p.slot) e)), avoids_places side slot xs a.1)

pub avoids_slots : (side : Side) (slot : ℕ) (slots : List ℕ) → Avoids (place_on_side side slot) (places_of side slots) → Avoids slot slots
avoids_slots side slot [] a = tt
avoids_slots side slot (x ∷ xs) a = ((λ e. a.0 (ap (place_on_side side) e)), avoids_slots side slot xs a.1)

pub places_count : (side : Side) (slots : List ℕ) → length (places_of side slots) ≡ length slots
places_count side [] = refl
places_count side (x ∷ xs) = let h = places_count side xs in omega (arith, h)

-- a place is in a list if its slot is
pub place_told : (side : Side) (slot : ℕ) (slots : List ℕ) (answer : Bool) → (answer ≡ false) ↔ Avoids (place_on_side side slot) (places_of side slots) → (answer ≡ false) ↔ Avoids slot slots
place_told side slot slots answer h = ((λ e. avoids_slots side slot slots (h.0 e)), (λ a. h.1 (avoids_places side slot slots a)))

-- nothing is in a list of no slots
pub none_told : (slot : ℕ) (slots : List ℕ) (count : ℕ) → count ≡ length slots → count ≡ 0 → (false ≡ false) ↔ Avoids slot slots
none_told slot [] count e z = ((λ f. tt), (λ a. refl))
none_told slot (x ∷ xs) count e z = absurd (omega (arith, e, z))

-- no place is on both sides
pub avoids_other : (side : Side) (slot : ℕ) (slots : List ℕ) → Avoids (place_on_side side slot) (places_of (other_side side) slots)
avoids_other side slot [] = tt
avoids_other side slot (x ∷ xs) = ((λ e. sides_differ side (sym (ap (λ (p : SideSlot). p.side) e))), avoids_other side slot xs)

avoids_turned : (side : Side) (slot : ℕ) (slots : List ℕ) → Avoids (place_on_side (other_side side) slot) (places_of side slots)
avoids_turned side slot [] = tt
avoids_turned side slot (x ∷ xs) = ((λ e. sides_differ side (ap (λ (p : SideSlot). p.side) e)), avoids_turned side slot xs)

pub sides_apart : (side : Side) (xs ys : List ℕ) → AreDisjoint (places_of side xs) (places_of (other_side side) ys)
sides_apart side xs [] = tt
sides_apart side xs (y ∷ ys) = (avoids_turned side y xs, sides_apart side xs ys)

pub places_push : (side : Side) (slots : List ℕ) (slot : ℕ) → places_of side (slots ++ slot ∷ []) ≡ places_of side slots ++ place_on_side side slot ∷ []
places_push side [] slot = refl
places_push side (x ∷ xs) slot = ap (λ (ps : List SideSlot). place_on_side side x ∷ ps) (places_push side xs slot)

length_push : (xs : List ℕ) (x : ℕ) → length (xs ++ x ∷ []) ≡ length xs + 1
length_push [] x = refl
length_push (y ∷ ys) x = let h = length_push ys x in omega (arith, h)

-- a slot went in
pub set_added : (has has' : SideSlot → Type 0) (next next' : SideSlot → Option SideSlot) (old : Dirty) (chain : Chain SideSlot) (opened closed : List ℕ) (slot : ℕ) → AreSets has next old opened closed → IsChain has' next' chain (places_of old.side opened ++ place_on_side old.side slot ∷ []) →
    IsChain has' next' old.closed (places_of (other_side old.side) closed) → AreSets has' next' (record old { opened = chain; open_count = old.open_count + 1 }) (opened ++ slot ∷ []) closed
set_added has has' next next' old chain opened closed slot d c k = record {
  open_chain = subst (λ (ps : List SideSlot). IsChain has' next' chain ps) (sym (places_push old.side opened slot)) c;
  closed_chain = k;
  open_count = let e = length_push opened slot in omega (arith, e, d.open_count);
  closed_count = d.closed_count;
}

-- the sides were turned
pub set_closed : (has : SideSlot → Type 0) (next : SideSlot → Option SideSlot) (old : Dirty) (chain : Chain SideSlot) (opened : List ℕ) → AreSets has next old opened [] → IsEmpty chain →
    AreSets has next (record { opened = chain; closed = old.opened; side = other_side old.side; open_count = 0; closed_count = old.open_count }) [] opened
set_closed has next old chain opened d e = record {
  open_chain = empty_chain has next chain e;
  closed_chain = subst (λ side. IsChain has next old.opened (places_of side opened)) (sym (turned_twice old.side)) d.open_chain;
  open_count = refl;
  closed_count = d.open_count;
}

pub first_place : (side : Side) (slots : List ℕ) (place : SideSlot) → Some place ≡ first_of (places_of side slots) → Some place.slot ≡ first_of slots
first_place side [] place e = absurd cc
first_place side (x ∷ xs) place e = let f : place ≡ place_on_side side x = cc in ap (λ (p : SideSlot). Some p.slot) f

pub no_place : (side : Side) (slots : List ℕ) → None ≡ first_of (places_of side slots) → slots ≡ []
no_place side [] e = refl
no_place side (x ∷ xs) e = absurd cc

pub some_counted : (side : Side) (slots : List ℕ) (place : SideSlot) (count : ℕ) → Some place ≡ first_of (places_of side slots) → count ≡ length slots → 1 + length (rest_of slots) ≡ count
some_counted side [] place count e n = absurd cc
some_counted side (x ∷ xs) place count e n = omega (arith, n)

places_rest : (side : Side) (slots : List ℕ) → rest_of (places_of side slots) ≡ places_of side (rest_of slots)
places_rest side [] = refl
places_rest side (x ∷ xs) = refl

-- a slot went out
pub set_popped : (has : SideSlot → Type 0) (next : SideSlot → Option SideSlot) (old : Dirty) (chain : Chain SideSlot) (opened closed : List ℕ) (place : SideSlot) → AreSets has next old opened closed → Some place ≡ first_of (places_of (other_side old.side) closed) →
    IsChain has next chain (rest_of (places_of (other_side old.side) closed)) → AreSets has next (record old { closed = chain; closed_count = old.closed_count - 1 }) opened (rest_of closed)
set_popped has next old chain opened closed place d e c = record {
  open_chain = d.open_chain;
  closed_chain = subst (λ (ps : List SideSlot). IsChain has next chain ps) (places_rest (other_side old.side) closed) c;
  open_count = d.open_count;
  closed_count = let n = some_counted (other_side old.side) closed place old.closed_count e d.closed_count in omega (arith, n);
}

-- none was left
pub set_empty : (has : SideSlot → Type 0) (next : SideSlot → Option SideSlot) (old : Dirty) (chain : Chain SideSlot) (opened closed : List ℕ) → AreSets has next old opened closed → None ≡ first_of (places_of (other_side old.side) closed) → IsChain has next chain (rest_of (places_of (other_side old.side) closed)) →
    AreSets has next (record old { closed = chain }) opened (rest_of closed)
set_empty has next old chain opened closed d e c = record {
  open_chain = d.open_chain;
  closed_chain = subst (λ (ps : List SideSlot). IsChain has next chain ps) (places_rest (other_side old.side) closed) c;
  open_count = d.open_count;
  closed_count = d.closed_count ∙ ap length (none_left closed (no_place (other_side old.side) closed e));
}
  where
    none_left : (slots : List ℕ) → slots ≡ [] → slots ≡ rest_of slots
    none_left [] e = refl
    none_left (x ∷ xs) e = absurd cc

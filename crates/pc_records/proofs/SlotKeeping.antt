-- What slots and queues keep.
use Rattle.std.proofs.Common.{◌≡◌, ℕ, ◌+◌, ◌≤◌, List, [], refl, sym, ap, ◌∙◌, subst, arith, cond, Bool, true, false, eqb, zero, suc, ◌∷◌, map}
use Rattle.std.specs.Prelude.{insert}
use Rattle.std.proofs.lemmas.Bool.Decides.{nat_tests}
use Rattle.pc_model.specs.Database.{KeysRise}
use Rattle.pc_model.specs.Locks.{Queue}
use Rattle.pc_locks.specs.States.{Queues, queue_at, SetsAt}
use Rattle.pc_slots.specs.Slots.{Slot}
use Rattle.pc_records.specs.Slots.{no_queues, rows_of, numbers_of, times, AreSlotsKept}
use Rattle.pc_records.proofs.SlotRising.{keys_of, rise_any, rise_same}
use Rattle.std.proofs.lemmas.Bool.{eqb-true, eqb-false}

-- how often a number occurs among those of slots if one goes in
pub times-insert : (n : ℕ) (slots : List Slot) (i : ℕ) (x : Slot) → times n (numbers_of (insert slots i x)) ≡ times n (numbers_of slots) + cond (eqb x.number n) 1 0
times-insert n [] zero x = grind arith
times-insert n [] (suc i) x = grind arith
times-insert n (y ∷ ys) zero x = grind arith
times-insert n (y ∷ ys) (suc i) x = grind (arith, times-insert n ys i x)

-- the queues, if that of this number is another
abbrev pub set_at : Queues → ℕ → Queue → Queues
set_at queues n q m = cond (eqb m n) q (queue_at queues m)

pub queue_other : (queues : Queues) (n m : ℕ) (q : Queue) → eqb m n ≡ false → queue_at (set_at queues n q) m ≡ queue_at queues m
queue_other queues n m q other = ap (λ b. cond b q (queue_at queues m)) other

-- what is set at one number is set there
pub set_is : (queues new : Queues) (n : ℕ) (q : Queue) → SetsAt queues new n q → new ≡ set_at queues n q
set_is queues new n q h = λ i m. each m (eqb m n) refl i
  where
    each : (m : ℕ) (b : Bool) → eqb m n ≡ b → new m ≡ cond b q (queue_at queues m)
    each m true is = ap new (eqb-true m n is) ∙ h.this
    each m false is = h.others m (eqb-false m n is)

-- other slots of the same keys and numbers
pub kept_same : (slots new : List Slot) (queues : Queues) → keys_of new ≡ keys_of slots → numbers_of new ≡ numbers_of slots → AreSlotsKept slots queues → AreSlotsKept new queues
kept_same slots new queues keys numbers kept = record {
  rise = rise_same slots new keys kept.rise;
  once = λ n. subst (λ ns. times n ns ≤ 1) (sym numbers) (kept.once n);
  bare = λ n none. kept.bare n (ap (times n) (sym numbers) ∙ none);
}

-- slots that keep their keys and numbers
pub keys_map : (g : Slot → Slot) (slots : List Slot) → ((s : Slot) → (g s).key ≡ s.key) → keys_of (map g slots) ≡ keys_of slots
keys_map g [] keeps = refl
keys_map g (x ∷ xs) keeps = ap (λ (k : List ℕ). k ∷ keys_of (map g xs)) (keeps x) ∙ ap (λ (ks : List (List ℕ)). x.key ∷ ks) (keys_map g xs keeps)

pub numbers_map : (g : Slot → Slot) (slots : List Slot) → ((s : Slot) → (g s).number ≡ s.number) → numbers_of (map g slots) ≡ numbers_of slots
numbers_map g [] keeps = refl
numbers_map g (x ∷ xs) keeps = ap (λ (n : ℕ). n ∷ numbers_of (map g xs)) (keeps x) ∙ ap (λ (ns : List ℕ). x.number ∷ ns) (numbers_map g xs keeps)

pub kept_map : (g : Slot → Slot) (slots new : List Slot) (queues : Queues) → new ≡ map g slots → ((s : Slot) → (g s).key ≡ s.key) → ((s : Slot) → (g s).number ≡ s.number) → AreSlotsKept slots queues → AreSlotsKept new queues
kept_map g slots new queues is keys numbers kept = kept_same slots new queues (ap keys_of is ∙ keys_map g slots keys) (ap numbers_of is ∙ numbers_map g slots numbers) kept

-- a slot goes in with a number that no slot has, and has this queue
pub kept_inserted : (slots new : List Slot) (queues new_queues : Queues) (i : ℕ) (x : Slot) (q : Queue) → AreSlotsKept slots queues → times x.number (numbers_of slots) ≡ 0 → new ≡ insert slots i x → new_queues ≡ set_at queues x.number q →
    KeysRise (rows_of new_queues new) → AreSlotsKept new new_queues
kept_inserted slots new queues new_queues i x q kept apart new_is queues_are rise = record {
  rise = rise_any new_queues no_queues new rise;
  once = λ m. subst (λ k. k ≤ 1) (sym (count m)) (at_most m (eqb x.number m) refl (kept.once m));
  bare = λ m none. ap (λ (qs : Queues). queue_at qs m) queues_are ∙ by_test m (eqb x.number m) refl (sym (count m) ∙ none);
}
  where
    count : (m : ℕ) → times m (numbers_of new) ≡ times m (numbers_of slots) + cond (eqb x.number m) 1 0
    count m = ap (λ (ss : List Slot). times m (numbers_of ss)) new_is ∙ times-insert m slots i x

    at_most : (m : ℕ) (b : Bool) → eqb x.number m ≡ b → times m (numbers_of slots) ≤ 1 → times m (numbers_of slots) + cond b 1 0 ≤ 1
    at_most m true e once =
        let same : x.number ≡ m = grind (arith, nat_tests, e) in
        let none : times m (numbers_of slots) ≡ 0 = ap (λ n. times n (numbers_of slots)) (sym same) ∙ apart in
        omega (arith, none)
    at_most m false e once = omega (arith, once)

    by_test : (m : ℕ) (b : Bool) → eqb x.number m ≡ b → times m (numbers_of slots) + cond b 1 0 ≡ 0 → queue_at (set_at queues x.number q) m ≡ []
    by_test m true e none = absurd (omega (arith, none))
    by_test m false e none =
        let other : eqb m x.number ≡ false = grind (arith, nat_tests, e) in
        queue_other queues x.number m q other ∙ kept.bare m (omega (arith, none))

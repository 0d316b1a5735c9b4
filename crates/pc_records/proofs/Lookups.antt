-- The slot of a key, and what is found by key in the slots.
use Rattle.std.proofs.Common.{◌≡◌, ℕ, zero, suc, ◌<◌, List, [], ◌∷◌, length, get_or, Option, Some, None, is_some, refl, sym, ap, ◌∙◌, arith, cond, Bool, true, false}
use Rattle.std.specs.Prelude.{All}
use Rattle.std.specs.FinMap.{find, is_sorted}
use Rattle.std.specs.FinMap.Entries.{below_all, is_some-find}
use Rattle.std.specs.Ordering.{is_lt, is_eq}
use Rattle.std.specs.declared.cmp.Ordering.{Ordering}
use Rattle.std.specs.declared.cmp.Ordering.TheVariants.{Less, Equal, Greater}
use Rattle.std.proofs.Math.ListN.{get_or-map}
use Rattle.std.proofs.lemmas.Cmp.{eq_by_cmp_equiv}
use Rattle.pc_model.specs.Database.{KeysRise, key_cmp, key_order, same_bytes}
use Rattle.pc_locks.specs.States.{Queues}
use Rattle.pc_model.proofs.CountLaws.{and_both, below_apart}
use Rattle.pc_model.proofs.JoinLaws.{one_key}
use Rattle.pc_records.specs.Rows.{Row, Record, record_of}
use Rattle.pc_slots.specs.Slots.{Slot}
use Rattle.pc_records.specs.Slots.{no_queues, row_of, rows_of, with_optional_entry, slot_entries}

below_at : (key : List ℕ) (rows : List Row) (i : ℕ) (d : Row) → i < length rows → below_all key_cmp key rows ≡ true → is_lt (key_cmp key (get_or rows i d).0) ≡ true
below_at key [] i d lt h = absurd (omega (arith, lt))
below_at key (row ∷ rows) zero d lt h = (and_both (is_lt (key_cmp key row.0)) (below_all key_cmp key rows) h).0
below_at key (row ∷ rows) (suc i) d lt h = below_at key rows i d (omega (arith, lt)) (and_both (is_lt (key_cmp key row.0)) (below_all key_cmp key rows) h).1

-- the slot of the key
abbrev pub slot_of : List Slot → List ℕ → Option Slot
slot_of [] q = None
slot_of (s ∷ ss) q = cond (same_bytes q s.key) (Some s) (slot_of ss q)

-- the record of a slot, if there is one
abbrev pub record_in : Queues → Option Slot → Option Record
record_in queues None = None
record_in queues (Some s) = Some (row_of queues s).1

-- what a slot has of something, if there is a slot
abbrev pub of_slot : {X : Type 0} → (Slot → Option X) → Option Slot → Option X
of_slot f None = None
of_slot f (Some s) = f s

pub same_self : (q : List ℕ) → same_bytes q q ≡ true
same_self q = (eq_by_cmp_equiv key_order.total).refl q

pub same_turned : (a b : List ℕ) → same_bytes a b ≡ same_bytes b a
same_turned a b = (eq_by_cmp_equiv key_order.total).symm a b

pub find_row : (queues : Queues) (slots : List Slot) (q : List ℕ) → record_of (rows_of queues slots) q ≡ record_in queues (slot_of slots q)
find_row queues [] q = refl
find_row queues (s ∷ ss) q = grind (arith, find_row queues ss q)

none_of : {A : Type 0} (o : Option A) → is_some o ≡ false → o ≡ None
none_of None e = refl
none_of (Some x) e = cc

-- the key of a later slot is another one
head_apart : (x : Slot) (xs : List Slot) (key : List ℕ) (i : ℕ) (d : Slot) → KeysRise (rows_of no_queues (x ∷ xs)) → i < length xs → same_bytes key (get_or xs i d).key ≡ true → same_bytes key x.key ≡ false
head_apart x xs key i d rise lt here =
    let below = (and_both (below_all key_cmp x.key (rows_of no_queues xs)) (is_sorted key_cmp (rows_of no_queues xs)) rise).0 in
    let less : is_lt (key_cmp x.key (get_or (rows_of no_queues xs) i (row_of no_queues d)).0) ≡ true = below_at x.key (rows_of no_queues xs) i (row_of no_queues d) (omega (arith, lt, length-rows xs)) below in
    same_turned key x.key ∙ less_apart (key_cmp x.key key) (ap (λ (k : List ℕ). is_lt (key_cmp x.key k)) (one_key key (get_or xs i d).key here ∙ ap (λ (r : Row). r.0) (sym (get_or-map (row_of no_queues) xs i d))) ∙ less)
  where
    length-rows : (slots : List Slot) → length (rows_of no_queues slots) ≡ length slots
    length-rows [] = refl
    length-rows (x ∷ xs) = grind (arith, length-rows xs)

    less_apart : (o : Ordering) → is_lt o ≡ true → is_eq o ≡ false
    less_apart Less e = refl
    less_apart Equal e = cc
    less_apart Greater e = cc

-- the slot at its place is that of its key
pub slot_at : (slots : List Slot) (key : List ℕ) (i : ℕ) (d : Slot) → KeysRise (rows_of no_queues slots) → i < length slots → same_bytes key (get_or slots i d).key ≡ true → slot_of slots key ≡ Some (get_or slots i d)
slot_at [] key i d rise lt here = absurd (omega (arith, lt))
slot_at (x ∷ xs) key zero d rise lt here = rw here refl
slot_at (x ∷ xs) key (suc i) d rise lt here = rw (head_apart x xs key i d rise (omega (arith, lt)) here) (slot_at xs key i d (and_both (below_all key_cmp x.key (rows_of no_queues xs)) (is_sorted key_cmp (rows_of no_queues xs)) rise).1 (omega (arith, lt)) here)

-- what holds of each slot that is found holds of all
pub all_found : (P : Slot → Type 0) (slots : List Slot) → KeysRise (rows_of no_queues slots) → ((q : List ℕ) (s : Slot) → slot_of slots q ≡ Some s → P s) → All P slots
all_found P slots rise each k d lt = each (get_or slots k d).key (get_or slots k d) (slot_at slots (get_or slots k d).key k d rise lt (same_self (get_or slots k d).key))

-- what is found of a key is what its slot has
below_entries : {X : Type 0} (f : Slot → Option X) (key : List ℕ) (slots : List Slot) → below_all key_cmp key (rows_of no_queues slots) ≡ true → below_all key_cmp key (slot_entries f slots) ≡ true
below_entries f key [] h = refl
below_entries {X} f key (s ∷ ss) h =
    let parts = and_both (is_lt (key_cmp key s.key)) (below_all key_cmp key (rows_of no_queues ss)) h in
    by_value (f s) parts.0 (below_entries f key ss parts.1)
  where
    by_value : (o : Option X) → is_lt (key_cmp key s.key) ≡ true → below_all key_cmp key (slot_entries f ss) ≡ true → below_all key_cmp key (with_optional_entry s.key o (slot_entries f ss)) ≡ true
    by_value None lt later = later
    by_value (Some x) lt later = rw (lt, later) refl

pub sorted_entries : {X : Type 0} (f : Slot → Option X) (slots : List Slot) → KeysRise (rows_of no_queues slots) → KeysRise (slot_entries f slots)
sorted_entries f [] h = refl
sorted_entries {X} f (s ∷ ss) h =
    let parts = and_both (below_all key_cmp s.key (rows_of no_queues ss)) (is_sorted key_cmp (rows_of no_queues ss)) h in
    by_value (f s) (below_entries f s.key ss parts.0) (sorted_entries f ss parts.1)
  where
    by_value : (o : Option X) → below_all key_cmp s.key (slot_entries f ss) ≡ true → is_sorted key_cmp (slot_entries f ss) ≡ true → is_sorted key_cmp (with_optional_entry s.key o (slot_entries f ss)) ≡ true
    by_value None below later = later
    by_value (Some x) below later = rw (below, later) refl

pub find_entry : {X : Type 0} (f : Slot → Option X) (slots : List Slot) (q : List ℕ) → KeysRise (rows_of no_queues slots) → find key_cmp q (slot_entries f slots) ≡ of_slot f (slot_of slots q)
find_entry f [] q h = refl
find_entry {X} f (s ∷ ss) q h =
    let parts = and_both (below_all key_cmp s.key (rows_of no_queues ss)) (is_sorted key_cmp (rows_of no_queues ss)) h in
    by_value (f s) refl (same_bytes q s.key) refl (lacks parts.0) (find_entry f ss q parts.1)
  where
    lacks : below_all key_cmp s.key (rows_of no_queues ss) ≡ true → find key_cmp s.key (slot_entries f ss) ≡ None
    lacks below = none_of _ (is_some-find key_cmp s.key (slot_entries f ss) ∙ below_apart s.key (slot_entries f ss) (below_entries f s.key ss below))

    by_value : (o : Option X) → f s ≡ o → (b : Bool) → same_bytes q s.key ≡ b → find key_cmp s.key (slot_entries f ss) ≡ None → find key_cmp q (slot_entries f ss) ≡ of_slot f (slot_of ss q) →
        find key_cmp q (with_optional_entry s.key o (slot_entries f ss)) ≡ of_slot f (cond b (Some s) (slot_of ss q))
    by_value None is true same none later = ap (λ k. find key_cmp k (slot_entries f ss)) (one_key q s.key same) ∙ none ∙ sym is
    by_value None is false same none later = later
    by_value (Some x) is true same none later = rw same (sym is)
    by_value (Some x) is false same none later = rw same later

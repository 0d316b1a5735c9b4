-- The rows ascend as their keys do.
use Rattle.std.proofs.Common.{◌≡◌, ℕ, List, [], ◌∷◌, map, Bool, true, refl, sym, ap, ◌∙◌, ◌&&◌}
use Rattle.std.specs.FinMap.{is_sorted}
use Rattle.std.specs.FinMap.Entries.{below_all}
use Rattle.std.specs.Ordering.{is_lt}
use Rattle.pc_model.specs.Database.{key_cmp, KeysRise}
use Rattle.pc_locks.specs.States.{Queues}
use Rattle.pc_slots.specs.Slots.{Slot}
use Rattle.pc_records.specs.Slots.{no_queues, rows_of, contents_of}

-- the keys of the slots
abbrev pub keys_of : List Slot → List (List ℕ)
keys_of slots = map (λ (slot : Slot). slot.key) slots

abbrev below_keys : List ℕ → List (List ℕ) → Bool
below_keys key [] = true
below_keys key (k ∷ ks) = is_lt (key_cmp key k) && below_keys key ks

abbrev sorted_keys : List (List ℕ) → Bool
sorted_keys [] = true
sorted_keys (k ∷ ks) = below_keys k ks && sorted_keys ks

below_is : (queues : Queues) (key : List ℕ) (slots : List Slot) → below_all key_cmp key (rows_of queues slots) ≡ below_keys key (keys_of slots)
below_is queues key [] = refl
below_is queues key (x ∷ xs) = ap (λ b. is_lt (key_cmp key x.key) && b) (below_is queues key xs)

sorted_is : (queues : Queues) (slots : List Slot) → is_sorted key_cmp (rows_of queues slots) ≡ sorted_keys (keys_of slots)
sorted_is queues [] = refl
sorted_is queues (x ∷ xs) = rw (below_is queues x.key xs, sorted_is queues xs) refl

-- they ascend whatever the queues
pub rise_any : (p q : Queues) (slots : List Slot) → KeysRise (rows_of p slots) → KeysRise (rows_of q slots)
rise_any p q slots rise = sorted_is q slots ∙ (sym (sorted_is p slots) ∙ rise)

-- and so do slots with the same keys
pub rise_same : (slots new : List Slot) → keys_of new ≡ keys_of slots → KeysRise (rows_of no_queues slots) → KeysRise (rows_of no_queues new)
rise_same slots new same rise = sorted_is no_queues new ∙ (ap sorted_keys same ∙ (sym (sorted_is no_queues slots) ∙ rise))

-- and what is committed of the keys
below_contents : (key : List ℕ) (slots : List Slot) → below_all key_cmp key (contents_of slots) ≡ below_keys key (keys_of slots)
below_contents key [] = refl
below_contents key (x ∷ xs) = ap (λ b. is_lt (key_cmp key x.key) && b) (below_contents key xs)

sorted_contents : (slots : List Slot) → is_sorted key_cmp (contents_of slots) ≡ sorted_keys (keys_of slots)
sorted_contents [] = refl
sorted_contents (x ∷ xs) = rw (below_contents x.key xs, sorted_contents xs) refl

pub contents_rise : (slots : List Slot) → KeysRise (rows_of no_queues slots) → KeysRise (contents_of slots)
contents_rise slots rise = sorted_contents slots ∙ (sym (sorted_is no_queues slots) ∙ rise)

-- The open set is closed: the sides are turned. And the first sets, which are empty.
use Rattle.std.proofs.Common.{◌≡◌, ℕ, suc, List, [], ◌∷◌, map, Option, Some, refl, sym, ap, ◌∙◌, subst, arith, cond, Bool, true, false, eqb}
use Rattle.std.specs.Prelude.{All}
use Rattle.pc_locks.specs.States.{Queues}
use Rattle.pc_model.specs.Points.{is_among}
use Rattle.pc_dirty.specs.declared.side.Side.{Side}
use Rattle.pc_dirty.specs.declared.side.Side.TheVariants.{First, Second}
use Rattle.pc_dirty.specs.declared.dirty.Dirty.{Dirty}
use Rattle.pc_dirty.specs.Sets.{other_side, AreSets, AreEmpty}
use Rattle.pc_dirty.proofs.SetLaws.{empty_sets}
use Rattle.pc_table.specs.Rows.{TableRow, in_slot}
use Rattle.pc_slots.specs.declared.cells.Cell.{Cell}
use Rattle.pc_slots.specs.Words.{is_marked}
use Rattle.pc_records.specs.Rows.{record_of, is_in_closed_set}
use Rattle.pc_slots.specs.Slots.{Slot, slot_with, closed_slot, base_cell, aside_in, writer_in}
use Rattle.pc_records.specs.Slots.{slots_in, slot_in, rows_of, AreSlotsKept, base_row, cells_in}
use Rattle.pc_records.specs.SetLists.{HasPlace, next_in, marked_in, keys_at, is_among_slots, AreSetLists, open_slots, closed_slots, IsListed, open_keys, closed_keys}
use Rattle.pc_records.proofs.Lookups.{all_found, find_row, record_in}
use Rattle.pc_records.proofs.Listing.{named, open_keys_named, closed_keys_named}
use Rattle.pc_records.proofs.Among.{all_are_listed}

turned_twice : (side : Side) → other_side (other_side side) ≡ side
turned_twice First = refl
turned_twice Second = refl

no_keys : (rows : List (TableRow Cell)) (slots : List ℕ) → keys_at rows slots ≡ [] → slots ≡ []
no_keys rows [] e = refl
no_keys rows (x ∷ xs) e = absurd cc

one_turned : (side : Side) (number : ℕ) (key : List ℕ) (x : Cell) → is_marked (other_side side) x ≡ false → slot_with (other_side side) number key x ≡ closed_slot (slot_with side number key x)
one_turned side number key x none = λ i. record {
  number = number;
  key = key;
  live = x.live;
  stable = (aside_in x.aside).stable;
  mark = (aside_in x.aside).mark;
  writer = writer_in x;
  is_in_open_set = none i;
  is_in_closed_set = is_marked (turned_twice side i) x;
}

all_turned : (side : Side) (rows : List (TableRow Cell)) → All (λ s. s.is_in_closed_set ≡ false) (slots_in side rows) → slots_in (other_side side) rows ≡ map closed_slot (slots_in side rows)
all_turned side [] none = refl
all_turned side (row ∷ rows) none =
    ap (λ (s : Slot). s ∷ slots_in (other_side side) rows) (one_turned side row.1.0 row.0 row.1.1 (none 0 (slot_in side row) (omega arith)))
    ∙ ap (λ (ss : List Slot). closed_slot (slot_in side row) ∷ ss) (all_turned side rows (λ k d lt. none (suc k) d (omega (arith, lt))))

module _ (rows : List (TableRow Cell)) (sets : Dirty) (l : IsListed rows sets) (none : closed_keys rows sets ≡ []) where
  pub linked_closing : AreSets (HasPlace rows) (next_in rows) sets (open_slots rows sets) []
  linked_closing = subst (λ (xs : List ℕ). AreSets (HasPlace rows) (next_in rows) sets (open_slots rows sets) xs) (no_keys rows (closed_slots rows sets) none) l.linked

  pub none_closed : (queues : Queues) → AreSlotsKept (slots_in sets.side rows) queues → (q : List ℕ) → is_in_closed_set (record_of (rows_of queues (slots_in sets.side rows)) q) ≡ false
  none_closed queues kept q = (all_are_listed rows sets queues kept l 0 0).closed_set q ∙ ap (λ ks. is_among ks q) none

  -- the slots, with the open set on the other side
  pub slots_turned : (queues : Queues) → AreSlotsKept (slots_in sets.side rows) queues → slots_in (other_side sets.side) rows ≡ map closed_slot (slots_in sets.side rows)
  slots_turned queues kept = all_turned sets.side rows (all_found (λ s. s.is_in_closed_set ≡ false) (slots_in sets.side rows) kept.rise (λ q s found. sym (ap is_in_closed_set (find_row queues (slots_in sets.side rows) q ∙ ap (record_in queues) found)) ∙ none_closed queues kept q))

  module _ (new : Dirty) (side : new.side ≡ other_side sets.side) (turned : AreSets (HasPlace rows) (next_in rows) new [] (open_slots rows sets)) where
    lists : AreSetLists rows new [] (open_slots rows sets)
    lists = record {
      linked = turned;
      open_marks = λ slot. ap (λ s. marked_in s (in_slot rows slot)) side ∙ (l.closed_marks slot ∙ ap (λ xs. is_among_slots xs slot) (no_keys rows (closed_slots rows sets) none));
      closed_marks = λ slot. ap (λ s. marked_in (other_side s) (in_slot rows slot)) side ∙ (ap (λ s. marked_in s (in_slot rows slot)) (turned_twice sets.side) ∙ l.open_marks slot);
    }

    pub turned_listed : IsListed rows new
    turned_listed = named rows new [] (open_slots rows sets) lists

    pub turned_open : open_keys rows new ≡ []
    turned_open = open_keys_named rows new [] (open_slots rows sets) lists

    pub turned_closed : closed_keys rows new ≡ open_keys rows sets
    turned_closed = closed_keys_named rows new [] (open_slots rows sets) lists

-- slots of pairs are in no set
module _ (pairs : List (List ℕ × List ℕ)) (rows : List (TableRow Cell)) (are : cells_in rows ≡ map base_row pairs) (sets : Dirty) (empty : AreEmpty sets) where
  bare : (side : Side) (content : Option (List ℕ)) → is_marked side (base_cell content) ≡ false
  bare First content = refl
  bare Second content = refl

  none_marked : (side : Side) (rs : List (TableRow Cell)) (ps : List (List ℕ × List ℕ)) → cells_in rs ≡ map base_row ps → (slot : ℕ) → marked_in side (in_slot rs slot) ≡ false
  none_marked side [] ps e slot = refl
  none_marked side (r ∷ rs) [] e slot = absurd cc
  none_marked side (r ∷ rs) (p ∷ ps) e slot = by_test (eqb r.1.0 slot) (none_marked side rs ps (tail e) slot)
    where
      head : {A : Type 0} {x y : A} {xs ys : List A} → x ∷ xs ≡ y ∷ ys → x ≡ y
      head e = cc

      tail : {A : Type 0} {x y : A} {xs ys : List A} → x ∷ xs ≡ y ∷ ys → xs ≡ ys
      tail e = cc

      by_test : (b : Bool) → marked_in side (in_slot rs slot) ≡ false → marked_in side (cond b (Some (r.0, r.1.1)) (in_slot rs slot)) ≡ false
      by_test true rest = ap (λ (c : List ℕ × Cell). is_marked side c.1) (head e) ∙ bare side (Some p.1)
      by_test false rest = rest

  lists_first : AreSetLists rows sets [] []
  lists_first = record { linked = empty_sets (HasPlace rows) (next_in rows) sets empty; open_marks = none_marked sets.side rows pairs are; closed_marks = none_marked (other_side sets.side) rows pairs are }

  pub first_listed : IsListed rows sets
  first_listed = named rows sets [] [] lists_first

  pub first_open : open_keys rows sets ≡ []
  first_open = open_keys_named rows sets [] [] lists_first

  pub first_shut : closed_keys rows sets ≡ []
  first_shut = closed_keys_named rows sets [] [] lists_first

-- A slot whose write is committed, and that goes into the open set if it isn't in it.
use Rattle.std.proofs.Common.{◌≡◌, ℕ, ◌+◌, ◌<◌, ◌≤◌, ◌^◌, List, [], ◌∷◌, ◌++◌, map, length, Option, Some, None, option_map, is_some, not, refl, sym, ap, ◌∙◌, subst, arith, cond, Bool, true, false, eqb, ◌==◌, ◌&&◌, inl, inr, append-nil}
use Rattle.std.proofs.lemmas.Bool.Decides.{nat_tests}
use Rattle.std.proofs.lemmas.Bool.{eqb-true, eq-eqb, or_parts, or_cases}
use Rattle.std.specs.List.{list_any, IsDistinct}
use Rattle.std.proofs.lemmas.Map.Steps.{length-le_from_distinct_below}
use Rattle.pc_chain.specs.Chains.{Avoids, AllHave}
use Rattle.pc_chain.proofs.ChainLaws.{avoided}
use Rattle.pc_dirty.specs.declared.side.Side.{Side}
use Rattle.pc_dirty.specs.declared.dirty.Dirty.{Dirty}
use Rattle.pc_dirty.specs.Sets.{other_side, place_on_side, AreSets, HasNoRepeats}
use Rattle.pc_dirty.proofs.SetLaws.{opened_once, opened_have}
use Rattle.pc_table.specs.Rows.{TableRow, Contents, in_slot, with_record_in, HasRow, AreInSlots}
use Rattle.pc_slots.specs.declared.cells.Cell.{Cell}
use Rattle.pc_slots.specs.Words.{is_marked, HaveLinks}
use Rattle.pc_slots.specs.Slots.{Slot, slot_with, settled, writer_in}
use Rattle.pc_records.specs.Slots.{slots_in, at_number}
use Rattle.pc_records.proofs.TableSlots.{changed_slots}
use Rattle.pc_records.specs.SetLists.{HasPlace, next_in, marked_in, key_in, keys_at, is_among_slots, AreSetLists, open_slots, closed_slots, IsListed, open_keys, closed_keys, entering, KeepSets, KeepRecords}
use Rattle.pc_records.proofs.InSlots.{cell_there}
use Rattle.pc_records.proofs.Unlinked.{slots_keep, marks_keep, key_keeps}
use Rattle.pc_records.proofs.Listing.{named, open_keys_named, closed_keys_named, kept_listed, kept_open, kept_closed}
use Rattle.pc_records.proofs.KeepingSets.{changed_sets}
use Rattle.pc_records.proofs.Marking.{mark_there, links_kept, linked_keep, same_words}

-- what isn't in the list
pub avoids_unlisted : (slot : ℕ) (xs : List ℕ) → is_among_slots xs slot ≡ false → Avoids slot xs
avoids_unlisted slot [] e = tt
avoids_unlisted slot (x ∷ xs) e =
    let h = or_parts (x == slot) (is_among_slots xs slot) e in
    ((λ f. let g = eq-eqb x slot f in let z = h.0 in cc), avoids_unlisted slot xs h.1)

-- a list with one more at its end
pub listed_push : (xs : List ℕ) (id slot : ℕ) → is_among_slots (xs ++ id ∷ []) slot ≡ cond (eqb slot id) true (is_among_slots xs slot)
listed_push [] id slot = grind (arith, nat_tests)
listed_push (x ∷ xs) id slot = grind (arith, nat_tests, listed_push xs id slot)

distinct_of : (xs : List ℕ) → HasNoRepeats xs → IsDistinct ◌==◌ xs
unfolding IsDistinct
distinct_of [] h = tt
distinct_of (x ∷ xs) h = (avoided x xs h.0, distinct_of xs h.1)

all_at : (P : ℕ → Type 0) (xs : List ℕ) (q : ℕ) → AllHave P xs → list_any (λ y. q == y) xs ≡ true → P q
all_at P [] q h e = absurd cc
all_at P (x ∷ xs) q h e = elim (or_cases (q == x) (list_any (λ y. q == y) xs) e) [ inl f ↦ subst P (sym (eqb-true q x f)) h.0 | inr f ↦ all_at P xs q h.1 f ]

-- there are no more slots in a list than in the table
pub lists_fit : (table : Contents Cell) → AreInSlots table → (slots : List ℕ) → HasNoRepeats slots → AllHave (HasRow table.rows) slots → length slots + 1 < 2 ^ 32
lists_fit table a slots once have =
    let n = length-le_from_distinct_below slots table.capacity (distinct_of slots once) (λ q e. a.below q (all_at (HasRow table.rows) slots q have e)) in
    let m : table.capacity ≤ 1048576 = a.most in
    omega (arith, n, m)

-- what a commit makes of the marks
settled_open : (point : ℕ) (s : Slot) → (settled point s).is_in_open_set ≡ cond (is_some s.writer) true s.is_in_open_set
settled_open point s = grind arith

settled_closed : (point : ℕ) (s : Slot) → (settled point s).is_in_closed_set ≡ s.is_in_closed_set
settled_closed point s = grind arith

keys_push : (rows : List (TableRow Cell)) (xs : List ℕ) (x : ℕ) → keys_at rows (xs ++ x ∷ []) ≡ keys_at rows xs ++ key_in (in_slot rows x) ∷ []
keys_push rows [] x = refl
keys_push rows (y ∷ ys) x = ap (λ (ks : List (List ℕ)). key_in (in_slot rows y) ∷ ks) (keys_push rows ys x)

pub all_keys : (old new : List (TableRow Cell)) → ((slot : ℕ) → key_in (in_slot new slot) ≡ key_in (in_slot old slot)) → (xs : List ℕ) → keys_at new xs ≡ keys_at old xs
all_keys old new f [] = refl
all_keys old new f (x ∷ xs) = ap (λ (k : List ℕ). k ∷ keys_at new xs) (f x) ∙ ap (λ (ks : List (List ℕ)). key_in (in_slot old x) ∷ ks) (all_keys old new f xs)

-- the write of the slot is committed, and it is in the open set, at its end if it wasn't in it
pub record Settles (table new : Contents Cell) (sets now : Dirty) (point id : ℕ) : Type 0 where
  pub slots : slots_in sets.side new.rows ≡ map (at_number (settled point) id) (slots_in sets.side table.rows)
  pub listed : IsListed new.rows now
  pub opened : open_keys new.rows now ≡ open_keys table.rows sets ++ entering sets.side (in_slot table.rows id)
  pub closed : closed_keys new.rows now ≡ closed_keys table.rows sets

module _ (table : Contents Cell) (a : AreInSlots table) (sets : Dirty) (l : IsListed table.rows sets) (id : ℕ) (x y : Cell) (has : option_map (λ pair. pair.1) (in_slot table.rows id) ≡ Some x) (point : ℕ)
    (here : Side) (is : here ≡ sets.side) (turned : (number : ℕ) (key : List ℕ) → slot_with here number key y ≡ settled point (slot_with here number key x)) (links : HaveLinks x y) where
  turns : (number : ℕ) (key : List ℕ) → slot_with sets.side number key y ≡ settled point (slot_with sets.side number key x)
  turns = subst (λ (s : Side). (number : ℕ) (key : List ℕ) → slot_with s number key y ≡ settled point (slot_with s number key x)) is turned

  turned_slots : slots_in sets.side (map (with_record_in id y) table.rows) ≡ map (at_number (settled point) id) (slots_in sets.side table.rows)
  turned_slots = changed_slots sets.side table id x y (settled point) a has turns

  abbrev opened : List ℕ
  opened = open_slots table.rows sets

  abbrev closed : List ℕ
  closed = closed_slots table.rows sets

  abbrev after : List (TableRow Cell)
  after = map (with_record_in id y) table.rows

  open_now : is_marked sets.side y ≡ cond (is_some (writer_in x)) true (is_marked sets.side x)
  open_now = ap (λ (s : Slot). s.is_in_open_set) (turns 0 []) ∙ settled_open point (slot_with sets.side 0 [] x)

  closed_now : is_marked (other_side sets.side) y ≡ is_marked (other_side sets.side) x
  closed_now = ap (λ (s : Slot). s.is_in_closed_set) (turns 0 []) ∙ settled_closed point (slot_with sets.side 0 [] x)

  marked_here : (side : Side) → marked_in side (in_slot table.rows id) ≡ is_marked side x
  marked_here side = by_row (in_slot table.rows id) has
    where
      by_row : (o : Option (List ℕ × Cell)) → option_map (λ pair. pair.1) o ≡ Some x → marked_in side o ≡ is_marked side x
      by_row None e = absurd cc
      by_row (Some p) e = ap (λ o. marked_in side (option_map (λ c. (p.0, c)) o)) e

  -- it doesn't go in
  module _ (still : false ≡ (is_some (writer_in x) && not (is_marked here x))) where
    stays : false ≡ (is_some (writer_in x) && not (is_marked sets.side x))
    stays = subst (λ (s : Side). false ≡ (is_some (writer_in x) && not (is_marked s x))) is still

    open_same : is_marked sets.side y ≡ is_marked sets.side x
    open_same = grind (arith, open_now, stays)

    keeps : KeepSets table.rows after
    keeps = changed_sets table.rows id x y has (same_words sets.side x y links open_same closed_now)

    stays_listed : IsListed after sets
    stays_listed = kept_listed table.rows after sets keeps l

    stays_open : open_keys after sets ≡ open_keys table.rows sets ++ entering sets.side (in_slot table.rows id)
    stays_open = kept_open table.rows after sets keeps l ∙ sym (ap (λ ks. open_keys table.rows sets ++ ks) nothing ∙ append-nil (open_keys table.rows sets))
      where
        nothing : entering sets.side (in_slot table.rows id) ≡ []
        nothing = let t = cell_there (in_slot table.rows id) x has in ap (entering sets.side) t.1 ∙ ap (λ b. cond b (t.0 ∷ []) []) (sym stays)

    pub stays_out : Settles table (record table { rows = after }) sets sets point id
    stays_out = record { slots = turned_slots; listed = stays_listed; opened = stays_open; closed = kept_closed table.rows after sets keeps l }

  -- it goes in
  module _ (gone : true ≡ (is_some (writer_in x) && not (is_marked here x))) where
    goes : true ≡ (is_some (writer_in x) && not (is_marked sets.side x))
    goes = subst (λ (s : Side). true ≡ (is_some (writer_in x) && not (is_marked s x))) is gone

    marked_now : is_marked sets.side y ≡ true
    marked_now = grind (arith, open_now, goes)

    not_before : is_marked sets.side x ≡ false
    not_before = grind (arith, goes)

    pub linked_after : AreSets (HasPlace after) (next_in after) sets opened closed
    linked_after = linked_keep table.rows after sets opened closed (links_kept table.rows id x y has links) l.linked

    pub avoids : Avoids id opened
    avoids = avoids_unlisted id opened (sym (l.open_marks id) ∙ (marked_here sets.side ∙ not_before))

    pub fits : length opened + 1 < 2 ^ 32
    fits = lists_fit table a opened (opened_once (HasPlace table.rows) (next_in table.rows) sets opened closed l.linked) (opened_have (HasPlace table.rows) (next_in table.rows) sets opened closed l.linked)

    pub has_after : HasRow table.rows id → HasPlace after (place_on_side sets.side id)
    has_after row = (links_kept table.rows id x y has links).row id ∙ row

    module _ (new : Contents Cell) (now : Dirty) (side : now.side ≡ sets.side) (beside : KeepRecords (record table { rows = after }) new) (linked : AreSets (HasPlace new.rows) (next_in new.rows) now (opened ++ id ∷ []) closed) where
      open_marks : (slot : ℕ) → marked_in now.side (in_slot new.rows slot) ≡ is_among_slots (opened ++ id ∷ []) slot
      open_marks slot =
          ap (λ s. marked_in s (in_slot new.rows slot)) side ∙ (marks_keep (record table { rows = after }) new beside sets.side slot ∙ (mark_there table.rows id x y has sets.side slot ∙ (ap (λ b. cond (eqb slot id) b (marked_in sets.side (in_slot table.rows slot))) marked_now
          ∙ (ap (cond (eqb slot id) true) (l.open_marks slot) ∙ sym (listed_push opened id slot)))))

      closed_marks : (slot : ℕ) → marked_in (other_side now.side) (in_slot new.rows slot) ≡ is_among_slots closed slot
      closed_marks slot =
          ap (λ s. marked_in (other_side s) (in_slot new.rows slot)) side ∙ (marks_keep (record table { rows = after }) new beside (other_side sets.side) slot ∙ (mark_there table.rows id x y has (other_side sets.side) slot ∙ (by_test (eqb slot id) refl ∙ l.closed_marks slot)))
        where
          by_test : (b : Bool) → eqb slot id ≡ b → cond b (is_marked (other_side sets.side) y) (marked_in (other_side sets.side) (in_slot table.rows slot)) ≡ marked_in (other_side sets.side) (in_slot table.rows slot)
          by_test true is = closed_now ∙ sym (ap (λ m. marked_in (other_side sets.side) (in_slot table.rows m)) (eqb-true slot id is) ∙ marked_here (other_side sets.side))
          by_test false is = refl

      lists : AreSetLists new.rows now (opened ++ id ∷ []) closed
      lists = record { linked = linked; open_marks = open_marks; closed_marks = closed_marks }

      keys : (slot : ℕ) → key_in (in_slot new.rows slot) ≡ key_in (in_slot table.rows slot)
      keys slot = key_keeps (record table { rows = after }) new beside slot ∙ (links_kept table.rows id x y has links).key slot

      goes_listed : IsListed new.rows now
      goes_listed = named new.rows now (opened ++ id ∷ []) closed lists

      goes_open : open_keys new.rows now ≡ open_keys table.rows sets ++ entering sets.side (in_slot table.rows id)
      goes_open = open_keys_named new.rows now (opened ++ id ∷ []) closed lists ∙ (all_keys table.rows new.rows keys (opened ++ id ∷ []) ∙ (keys_push table.rows opened id ∙ ap (λ ks. keys_at table.rows opened ++ ks) there))
        where
          there : key_in (in_slot table.rows id) ∷ [] ≡ entering sets.side (in_slot table.rows id)
          there = let t = cell_there (in_slot table.rows id) x has in ap (λ o. key_in o ∷ []) t.1 ∙ sym (ap (entering sets.side) t.1 ∙ ap (λ b. cond b (t.0 ∷ []) []) (sym goes))

      goes_closed : closed_keys new.rows now ≡ closed_keys table.rows sets
      goes_closed = closed_keys_named new.rows now (opened ++ id ∷ []) closed lists ∙ all_keys table.rows new.rows keys closed

      pub goes_in : Settles table new sets now point id
      goes_in = record { slots = slots_keep (record table { rows = after }) new beside sets.side ∙ turned_slots; listed = goes_listed; opened = goes_open; closed = goes_closed }

-- The floor of slots, once a key got a slot.
use Rattle.std.proofs.Common.{◌≡◌, ℕ, List, [], ◌∷◌, length, map, Option, Some, None, option_map, refl, sym, ap, ◌∙◌, subst, cond, Bool, true, false, arith}
use Rattle.std.proofs.lemmas.Bool.Decides.{nat_tests}
use Rattle.std.specs.Prelude.{IfOk, IfErr, OnErr, Result, Ok, Err, if◌then◌else◌, ◌==◌}
use Rattle.std.specs.declared.cmp.Ordering.{Ordering}
use Rattle.std.specs.declared.cmp.Ordering.TheVariants.{Less, Equal, Greater}
use Rattle.std.specs.Ordering.{is_eq, is_lt}
use Rattle.std.specs.FinMap.{find, put}
use Rattle.std.specs.FinMap.Entries.{by_order}
use Rattle.std.proofs.lemmas.List.{length-map}
use Rattle.pc_types.specs.declared.Refusal.{Refusal}
use Rattle.pc_types.specs.declared.Refusal.TheVariants.{Full, OutOfMemory}
use Rattle.pc_model.specs.Database.{key_cmp, same_bytes}
use Rattle.pc_records.specs.Rows.{record_of, stored}
use Rattle.pc_chain.specs.declared.chain.Chain.{Chain}
use Rattle.pc_locks.specs.States.{Queues, queue_at}
use Rattle.pc_dirty.specs.declared.side.Side.{Side}
use Rattle.pc_dirty.specs.declared.dirty.Dirty.{Dirty}
use Rattle.pc_table.specs.Rows.{TableRow, Contents, HasRow, AreInSlots, IsNewSlot, in_slot, with_row, slot_of as table_slot}
use Rattle.pc_table.proofs.RowLaws.{no_row}
use Rattle.pc_slots.specs.declared.cells.Cell.{Cell}
use Rattle.pc_slots.specs.Slots.{Slot, slot_with, base_cell, new_slot, keeps_copy, committed}
use Rattle.pc_types.specs.declared.Class.{Class}
use Rattle.pc_types.specs.declared.Class.TheVariants.{Before, During, After}
use Rattle.pc_records.specs.Ends.{ends_in, queues_in}
use Rattle.pc_records.specs.Slots.{slots_in, slot_in, cells_in, base_row, row_of, rows_of, times, numbers_of, AreSlotsKept, no_queues}
use Rattle.pc_records.specs.SetLists.{IsListed, open_keys, closed_keys}
use Rattle.pc_records.specs.Floor.{Spot, spot_of, spots_of, floor_of, has_spot, spots_with, new_spot, of_spot, copy_kept, committed_at, unnumbered, first_spot}
use Rattle.pc_records.proofs.BlankSlots.{blank_slot}
use Rattle.pc_records.proofs.EndsKept.{ends_with}
use Rattle.pc_records.proofs.FloorLaws.{row_spot}
use Rattle.pc_records.proofs.KeepingSets.{sets_with}
use Rattle.pc_records.proofs.Listing.{kept_listed, kept_open, kept_closed}
use Rattle.pc_records.proofs.SlotKeeping.{kept_inserted, set_is}
use Rattle.pc_records.proofs.SlotRising.{rise_any}
use Rattle.pc_records.proofs.TableSlots.{no_find, no_number, slots_rise, went_in, place}
use Rattle.pc_locks.specs.Keepers as keepers

-- the spots with a row that went in
put_spots : (side : Side) (queues : Queues) (key : List ℕ) (n : ℕ) (x : Cell) (rows : List (TableRow Cell)) → find key_cmp key rows ≡ None → spots_of queues (slots_in side (put key_cmp key (n, x) rows)) ≡ spots_with (spot_of queues (slot_with side n key x)) (spots_of queues (slots_in side rows))
put_spots side queues key n x [] none = refl
put_spots side queues key n x (row ∷ rows) none = by_test (key_cmp key row.0) none (put_spots side queues key n x rows)
  where
    by_test : (o : Ordering) → cond (is_eq o) (Some row.1) (find key_cmp key rows) ≡ None → (find key_cmp key rows ≡ None → spots_of queues (slots_in side (put key_cmp key (n, x) rows)) ≡ spots_with (spot_of queues (slot_with side n key x)) (spots_of queues (slots_in side rows))) →
        spots_of queues (slots_in side (by_order o ((key, (n, x)) ∷ row ∷ rows) ((row.0, (n, x)) ∷ rows) (row ∷ put key_cmp key (n, x) rows)))
        ≡ cond (is_lt o) (spot_of queues (slot_with side n key x) ∷ spots_of queues (slots_in side (row ∷ rows))) (spot_of queues (slot_in side row) ∷ spots_with (spot_of queues (slot_with side n key x)) (spots_of queues (slots_in side rows)))
    by_test Less none rest = refl
    by_test Equal none rest = absurd (no_row (sym none))
    by_test Greater none rest = ap (λ (xs : List Spot). spot_of queues (slot_in side row) ∷ xs) (rest none)

-- no spot has the number of a slot without a row
pub no_spot : (side : Side) (queues : Queues) (id : ℕ) (rows : List (TableRow Cell)) → in_slot rows id ≡ None → has_spot (spots_of queues (slots_in side rows)) id ≡ false
no_spot side queues id [] none = refl
no_spot side queues id (row ∷ rows) none = grind (arith, nat_tests, no_spot side queues id rows)

-- there are as many spots as rows
pub counted : (side : Side) (queues : Queues) (rows : List (TableRow Cell)) → length (spots_of queues (slots_in side rows)) ≡ length rows
counted side queues rows = length-map (slots_in side rows) (spot_of queues) ∙ length-map rows (slot_in side)

module _ (old new : Contents Cell) (key : List ℕ) (locks : keepers.KeptRequests) (sets : Dirty) (kept : AreSlotsKept (slots_in sets.side old.rows) (queues_in old.rows locks)) (listed : IsListed old.rows sets) (none : table_slot old.rows key ≡ None) (after : AreInSlots new) where
  abbrev Made : ℕ → Type 0
  Made id = new ≡ with_row old key id (base_cell None)

  module _ (id : ℕ) (made : Made id) (fresh : IsNewSlot old id) where
    queues_stay : queues_in new.rows locks ≡ queues_in old.rows locks
    queues_stay = ap (λ (ends : ℕ → Chain ℕ). keepers.queues_of ends locks) (ends_with old new key id None none fresh made)

    apart : times id (numbers_of (slots_in sets.side old.rows)) ≡ 0
    apart = no_number sets.side old.rows id fresh.1

    kept_one : AreSlotsKept (slots_in sets.side new.rows) (queues_in new.rows locks)
    kept_one =
        subst (AreSlotsKept (slots_in sets.side new.rows)) (sym queues_stay)
        (kept_inserted (slots_in sets.side old.rows) (slots_in sets.side new.rows) (queues_in old.rows locks) (queues_in old.rows locks) (place key (slots_in sets.side old.rows)) (new_slot id key) [] kept apart (went_in sets.side old new key id none made)
        (set_is (queues_in old.rows locks) (queues_in old.rows locks) id [] (record { this = kept.bare id apart; others = λ n other. refl }))
        (rise_any no_queues (queues_in old.rows locks) (slots_in sets.side new.rows) (slots_rise sets.side new.rows after.rise)))

    listed_one : IsListed new.rows sets
    listed_one = kept_listed old.rows new.rows sets (sets_with old new key id None none fresh made) listed

    spots_one : spots_of (queues_in new.rows locks) (slots_in sets.side new.rows) ≡ spots_with (new_spot id key) (spots_of (queues_in old.rows locks) (slots_in sets.side old.rows))
    spots_one =
        ap (λ (qs : Queues). spots_of qs (slots_in sets.side new.rows)) queues_stay ∙ ap (λ (t : Contents Cell). spots_of (queues_in old.rows locks) (slots_in sets.side t.rows)) made
        ∙ put_spots sets.side (queues_in old.rows locks) key id (base_cell None) old.rows (no_find old.rows key none)
        ∙ ap (λ (s : Spot). spots_with s (spots_of (queues_in old.rows locks) (slots_in sets.side old.rows))) (ap (spot_of (queues_in old.rows locks)) (blank_slot sets.side id key None) ∙ ap (λ q. record { slot = new_slot id key; queue = q }) (kept.bare id apart))

    floor_one : floor_of new.capacity (queues_in new.rows locks) (slots_in sets.side new.rows) (open_keys new.rows sets) (closed_keys new.rows sets)
        ≡ record (floor_of old.capacity (queues_in old.rows locks) (slots_in sets.side old.rows) (open_keys old.rows sets) (closed_keys old.rows sets)) { spots = spots_with (new_spot id key) (spots_of (queues_in old.rows locks) (slots_in sets.side old.rows)) }
    floor_one = λ i. record {
      capacity = ap (λ (t : Contents Cell). t.capacity) made i;
      spots = spots_one i;
      opened = kept_open old.rows new.rows sets (sets_with old new key id None none fresh made) listed i;
      closed = kept_closed old.rows new.rows sets (sets_with old new key id None none fresh made) listed i;
    }

  module _ {E : Type 0} (r : Result ℕ E) (made : IfOk r Made) (fresh : IfOk r (IsNewSlot old)) where
    module _ (same : OnErr r (new ≡ old)) (ends : keepers.AreEnds (ends_in old.rows) locks) where
      pub made_kept : AreSlotsKept (slots_in sets.side new.rows) (queues_in new.rows locks)
      made_kept = by_result r made fresh same
        where
          by_result : (r : Result ℕ E) → IfOk r Made → IfOk r (IsNewSlot old) → OnErr r (new ≡ old) → AreSlotsKept (slots_in sets.side new.rows) (queues_in new.rows locks)
          by_result (Ok id) made fresh same = kept_one id made fresh
          by_result (Err e) made fresh same = subst (λ (t : Contents Cell). AreSlotsKept (slots_in sets.side t.rows) (queues_in t.rows locks)) (sym same) kept

      pub made_ends : keepers.AreEnds (ends_in new.rows) locks
      made_ends = by_result r made fresh same
        where
          by_result : (r : Result ℕ E) → IfOk r Made → IfOk r (IsNewSlot old) → OnErr r (new ≡ old) → keepers.AreEnds (ends_in new.rows) locks
          by_result (Ok id) made fresh same = subst (λ (e : ℕ → Chain ℕ). keepers.AreEnds e locks) (sym (ends_with old new key id None none fresh made)) ends
          by_result (Err e) made fresh same = subst (λ (t : Contents Cell). keepers.AreEnds (ends_in t.rows) locks) (sym same) ends

      pub made_listed : IsListed new.rows sets
      made_listed = by_result r made fresh same
        where
          by_result : (r : Result ℕ E) → IfOk r Made → IfOk r (IsNewSlot old) → OnErr r (new ≡ old) → IsListed new.rows sets
          by_result (Ok id) made fresh same = listed_one id made fresh
          by_result (Err e) made fresh same = subst (λ (t : Contents Cell). IsListed t.rows sets) (sym same) listed

    pub made_floor : IfOk r (λ id. floor_of new.capacity (queues_in new.rows locks) (slots_in sets.side new.rows) (open_keys new.rows sets) (closed_keys new.rows sets)
        ≡ record (floor_of old.capacity (queues_in old.rows locks) (slots_in sets.side old.rows) (open_keys old.rows sets) (closed_keys old.rows sets)) { spots = spots_with (new_spot id key) (spots_of (queues_in old.rows locks) (slots_in sets.side old.rows)) })
    made_floor = by_result r made fresh
      where
        by_result : (r : Result ℕ E) → IfOk r Made → IfOk r (IsNewSlot old) → IfOk r (λ id. floor_of new.capacity (queues_in new.rows locks) (slots_in sets.side new.rows) (open_keys new.rows sets) (closed_keys new.rows sets)
            ≡ record (floor_of old.capacity (queues_in old.rows locks) (slots_in sets.side old.rows) (open_keys old.rows sets) (closed_keys old.rows sets)) { spots = spots_with (new_spot id key) (spots_of (queues_in old.rows locks) (slots_in sets.side old.rows)) })
        by_result (Ok id) made fresh = floor_one id made fresh
        by_result (Err e) made fresh = tt

-- what a refused slot tells, and one that was made
module _ (side : Side) (table new : Contents Cell) (queues later : Queues) (r : Result ℕ Refusal) where
  pub made_fresh : IfOk r (IsNewSlot table) → IfOk r (λ id. has_spot (spots_of queues (slots_in side table.rows)) id ≡ false)
  made_fresh fresh = grind (arith, no_spot side queues)

  pub made_there : IfOk r (HasRow new.rows) → IfOk r (λ id. has_spot (spots_of later (slots_in side new.rows)) id ≡ true)
  made_there row = grind (arith, row_spot side later)

  pub made_room : IfOk r (λ id. (length table.rows == table.capacity) ≡ false) → IfOk r (λ id. (length (spots_of queues (slots_in side table.rows)) == table.capacity) ≡ false)
  made_room room = grind (arith, counted side queues table.rows)

  pub made_refused : IfErr r (λ e. e ≡ (if length table.rows == table.capacity then Full else OutOfMemory)) → IfErr r (λ e. e ≡ (if length (spots_of queues (slots_in side table.rows)) == table.capacity then Full else OutOfMemory))
  made_refused refusal = grind (arith, counted side queues table.rows)

-- what a slot that is there has of something
pub of_there : (side : Side) (queues : Queues) (f : Slot → Option (List ℕ)) (out : Option (List ℕ)) (id : ℕ) (x : Cell) → ((key : List ℕ) → f (slot_with side id key x) ≡ out) → (rows : List (TableRow Cell)) → option_map (λ pair. pair.1) (in_slot rows id) ≡ Some x → of_spot f (spots_of queues (slots_in side rows)) id ≡ out
of_there side queues f out id x is [] has = absurd (no_row has)
of_there side queues f out id x is (row ∷ rows) has = grind (arith, nat_tests, of_there side queues f out id x is rows, is row.0)

pub copied_there : {E : Type 0} (side : Side) (queues : Queues) (f : Slot → Option (List ℕ)) (out : Option (List ℕ)) (id : ℕ) (x : Cell) (rows : List (TableRow Cell)) → option_map (λ pair. pair.1) (in_slot rows id) ≡ Some x → (r : Result (Option (List ℕ)) E) → ((key : List ℕ) → f (slot_with side id key x) ≡ out) → IfOk r (λ copy. copy ≡ out)
    → IfOk r (λ copy. copy ≡ of_spot f (spots_of queues (slots_in side rows)) id)
copied_there side queues f out id x rows has (Ok copy) is e = e ∙ sym (of_there side queues f out id x is rows has)
copied_there side queues f out id x rows has (Err why) is e = tt

-- what a write keeps is the same whatever the slot's number and key
pub keeps_alike : (side : Side) (point : ℕ) (class : Class) (id : ℕ) (key : List ℕ) (x : Cell) → keeps_copy point class (slot_with side id key x) ≡ keeps_copy point class (slot_with side 0 [] x)
keeps_alike side point Before id key x = refl
keeps_alike side point During id key x = refl
keeps_alike side point After id key x = refl

pub copy_alike : (side : Side) (point : ℕ) (class : Class) (id : ℕ) (key : List ℕ) (x : Cell) → copy_kept point class (slot_with side id key x) ≡ copy_kept point class (slot_with side 0 [] x)
copy_alike side point class id key x = ap (λ b. cond b x.live None) (keeps_alike side point class id key x)

-- what is kept of a slot, by both of its clauses
pub kept_copy : {E : Type 0} (side : Side) (point : ℕ) (class : Class) (x : Cell) (r : Result (Option (List ℕ)) E) → IfOk r (λ copy. (number : ℕ) (key : List ℕ) → keeps_copy point class (slot_with side number key x) ≡ true → copy ≡ x.live)
    → IfOk r (λ copy. keeps_copy point class (slot_with side 0 [] x) ≡ false → copy ≡ None) → IfOk r (λ copy. copy ≡ copy_kept point class (slot_with side 0 [] x))
kept_copy side point class x (Ok copy) kept none = by_test (keeps_copy point class (slot_with side 0 [] x)) refl
  where
    by_test : (b : Bool) → keeps_copy point class (slot_with side 0 [] x) ≡ b → copy ≡ cond b x.live None
    by_test true is = kept 0 [] is
    by_test false is = none is
kept_copy side point class x (Err why) kept none = tt

-- what is committed of a key, as its row has it
pub row_committed : (queues : Queues) (slots : List Slot) (key : List ℕ) → stored (record_of (rows_of queues slots) key) ≡ committed_at (spots_of queues slots) key
row_committed queues [] key = refl
row_committed queues (s ∷ slots) key = elim (same_bytes key s.key) as (λ b. stored (cond b (Some (row_of queues s).1) (record_of (rows_of queues slots) key)) ≡ cond b (committed s) (committed_at (spots_of queues slots) key)) [ true ↦ refl | false ↦ row_committed queues slots key ]

-- the first spots
pub first_spots : (side : Side) (queues : Queues) → ((n : ℕ) → queue_at queues n ≡ []) → (rows : List (TableRow Cell)) (pairs : List (List ℕ × List ℕ)) → cells_in rows ≡ map base_row pairs → map unnumbered (spots_of queues (slots_in side rows)) ≡ map first_spot pairs
first_spots side queues empty [] [] e = refl
first_spots side queues empty [] (p ∷ pairs) e = absurd cc
first_spots side queues empty (row ∷ rows) [] e = absurd cc
first_spots side queues empty (row ∷ rows) (p ∷ pairs) e =
    ap (λ (s : Spot). s ∷ map unnumbered (spots_of queues (slots_in side rows))) one ∙ ap (λ (ss : List Spot). first_spot p ∷ ss) (first_spots side queues empty rows pairs (tail e))
  where
    head : {A : Type 0} {x y : A} {xs ys : List A} → x ∷ xs ≡ y ∷ ys → x ≡ y
    head e = cc

    tail : {A : Type 0} {x y : A} {xs ys : List A} → x ∷ xs ≡ y ∷ ys → xs ≡ ys
    tail e = cc

    one : unnumbered (spot_of queues (slot_in side row)) ≡ first_spot p
    one =
        ap (λ (c : List ℕ × Cell). record { slot = slot_with side 0 c.0 c.1; queue = queue_at queues row.1.0 }) (head e)
        ∙ ap (λ q. record { slot = slot_with side 0 p.0 (base_cell (Some p.1)); queue = q }) (empty row.1.0)
        ∙ ap (λ (s : Slot). record { slot = s; queue = [] }) (blank_slot side 0 p.0 (Some p.1))

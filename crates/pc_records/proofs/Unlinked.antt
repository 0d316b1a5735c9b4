-- A link that is set in a row, and all that stays.
use Rattle.std.proofs.Common.{◌≡◌, ◌≢◌, ℕ, ◌≤◌, arith, List, [], ◌∷◌, map, Option, Some, None, option_map, is_some, refl, sym, ap, ◌∙◌, cond, Bool, true, false, eqb}
use Rattle.std.proofs.lemmas.Bool.Decides.{nat_tests}
use Rattle.std.proofs.lemmas.Bool.{eqb-true, eq-eqb}
use Rattle.pc_dirty.specs.declared.side.SideSlot.{SideSlot}
use Rattle.pc_dirty.specs.declared.side.Side.{Side}
use Rattle.pc_dirty.specs.declared.side.Side.TheVariants.{First, Second}
use Rattle.pc_table.specs.Rows.{TableRow, Contents, in_slot, with_record_in, AreInSlots}
use Rattle.pc_table.proofs.RowLaws.{same_some}
use Rattle.pc_slots.specs.declared.cells.Cell.{Cell}
use Rattle.pc_slots.specs.Words.{link_of, with_link, unlinked}
use Rattle.pc_records.specs.SetLists.{HasPlace, link_in, next_in, marked_in, key_in, unlinked_row, KeepRecords}
use Rattle.pc_records.specs.Ends.{ends_of, ends_in}
use Rattle.pc_slots.specs.Slots.{Slot}
use Rattle.pc_records.specs.Slots.{slot_in, slots_in, numbers_of, times}
use Rattle.pc_records.proofs.InSlots.{changed_in, in_changed, cell_there}
use Rattle.pc_records.proofs.TableSlots.{once_in}

-- a slot without its links
abbrev unlinked_in : Option (List ℕ × Cell) → Option (List ℕ × Cell)
unlinked_in o = option_map (λ p. (p.0, unlinked p.1)) o

in_unlinked : (rows : List (TableRow Cell)) (n : ℕ) → in_slot (map unlinked_row rows) n ≡ unlinked_in (in_slot rows n)
in_unlinked [] n = refl
in_unlinked (row ∷ rows) n = grind (arith, nat_tests, in_unlinked rows n)

-- if all but the links stays, so do the slots, whichever side the open set is on
pub slots_unlinked : (side : Side) (rows : List (TableRow Cell)) → slots_in side (map unlinked_row rows) ≡ slots_in side rows
slots_unlinked First [] = refl
slots_unlinked Second [] = refl
slots_unlinked First (row ∷ rows) = ap (λ (ss : List Slot). slot_in First row ∷ ss) (slots_unlinked First rows)
slots_unlinked Second (row ∷ rows) = ap (λ (ss : List Slot). slot_in Second row ∷ ss) (slots_unlinked Second rows)

module _ (old new : Contents Cell) (keep : KeepRecords old new) where
  pub slots_keep : (side : Side) → slots_in side new.rows ≡ slots_in side old.rows
  slots_keep side = sym (slots_unlinked side new.rows) ∙ (ap (slots_in side) keep.rows ∙ slots_unlinked side old.rows)

  in_keep : (n : ℕ) → unlinked_in (in_slot new.rows n) ≡ unlinked_in (in_slot old.rows n)
  in_keep n = sym (in_unlinked new.rows n) ∙ (ap (λ (rs : List (TableRow Cell)). in_slot rs n) keep.rows ∙ in_unlinked old.rows n)

  mark_of : (side : Side) (o : Option (List ℕ × Cell)) → marked_in side (unlinked_in o) ≡ marked_in side o
  mark_of side o = grind arith

  key_of : (o : Option (List ℕ × Cell)) → key_in (unlinked_in o) ≡ key_in o
  key_of None = refl
  key_of (Some p) = refl

  row_of : (o : Option (List ℕ × Cell)) → is_some (unlinked_in o) ≡ is_some o
  row_of None = refl
  row_of (Some p) = refl

  end_of : (o : Option (List ℕ × Cell)) → ends_of (unlinked_in o) ≡ ends_of o
  end_of None = refl
  end_of (Some p) = refl

  pub ends_keep : ends_in new.rows ≡ ends_in old.rows
  ends_keep = λ i n. (sym (end_of (in_slot new.rows n)) ∙ (ap ends_of (in_keep n) ∙ end_of (in_slot old.rows n))) i

  pub marks_keep : (side : Side) (n : ℕ) → marked_in side (in_slot new.rows n) ≡ marked_in side (in_slot old.rows n)
  marks_keep side n = sym (mark_of side (in_slot new.rows n)) ∙ (ap (marked_in side) (in_keep n) ∙ mark_of side (in_slot old.rows n))

  pub key_keeps : (n : ℕ) → key_in (in_slot new.rows n) ≡ key_in (in_slot old.rows n)
  key_keeps n = sym (key_of (in_slot new.rows n)) ∙ (ap key_in (in_keep n) ∙ key_of (in_slot old.rows n))

  pub row_keeps : (n : ℕ) → is_some (in_slot new.rows n) ≡ is_some (in_slot old.rows n)
  row_keeps n = sym (row_of (in_slot new.rows n)) ∙ (ap is_some (in_keep n) ∙ row_of (in_slot old.rows n))

-- the link that was set, and the others of the cell
link_here : (side : Side) (link : Option SideSlot) (x : Cell) → link_of side (with_link side link x) ≡ link
link_here side link x = grind arith

link_there : (side other : Side) (link : Option SideSlot) (x : Cell) → other ≢ side → link_of other (with_link side link x) ≡ link_of other x
link_there side other link x n = grind arith

unlinked_same : (side : Side) (link : Option SideSlot) (x : Cell) → unlinked (with_link side link x) ≡ unlinked x
unlinked_same side link x = grind arith

-- no row but that of the slot changes
rows_away : (n : ℕ) (y : Cell) (rows : List (TableRow Cell)) → times n (numbers_of (slots_in First rows)) ≡ 0 → map unlinked_row (map (with_record_in n y) rows) ≡ map unlinked_row rows
rows_away n y [] none = refl
rows_away n y (row ∷ rows) none = grind (arith, nat_tests, rows_away n y rows)

rows_there : (n : ℕ) (x y : Cell) (rows : List (TableRow Cell)) → times n (numbers_of (slots_in First rows)) ≤ 1 → option_map (λ pair. pair.1) (in_slot rows n) ≡ Some x → unlinked y ≡ unlinked x → map unlinked_row (map (with_record_in n y) rows) ≡ map unlinked_row rows
rows_there n x y [] once e same = refl
rows_there n x y (row ∷ rows) once e same = grind (arith, nat_tests, rows_there n x y rows, rows_away n y rows)

module _ (table : Contents Cell) (a : AreInSlots table) (place : SideSlot) (next : Option SideSlot) (x : Cell) (has : option_map (λ pair. pair.1) (in_slot table.rows place.slot) ≡ Some x) where
  abbrev linked : List (TableRow Cell)
  linked = map (with_record_in place.slot (with_link place.side next x)) table.rows

  pub link_set : next_in linked place ≡ next
  link_set =
      let t = cell_there (in_slot table.rows place.slot) x has in
      ap (link_in place.side) (in_changed place.slot (with_link place.side next x) table.rows place.slot ∙ ap (changed_in place.slot (with_link place.side next x) place.slot) t.1)
      ∙ (ap (λ b. link_of place.side (cond b (with_link place.side next x) x)) (eq-eqb place.slot place.slot refl) ∙ link_here place.side next x)

  pub link_kept : (other : SideSlot) → other ≢ place → next_in linked other ≡ next_in table.rows other
  link_kept other n = ap (link_in other.side) (in_changed place.slot (with_link place.side next x) table.rows other.slot) ∙ by_test (eqb other.slot place.slot) refl
    where
      here : other.slot ≡ place.slot → (o : Option (List ℕ × Cell)) → option_map (λ pair. pair.1) o ≡ Some x → link_in other.side (option_map (λ p. (p.0, with_link place.side next x)) o) ≡ link_in other.side o
      here same None e = refl
      here same (Some p) e = link_there place.side other.side next x (λ f. n (λ i. record { slot = same i; side = f i })) ∙ ap (link_of other.side) (sym (same_some e))

      away : (o : Option (List ℕ × Cell)) → link_in other.side (option_map (λ p. (p.0, p.1)) o) ≡ link_in other.side o
      away None = refl
      away (Some p) = refl

      by_test : (b : Bool) → eqb other.slot place.slot ≡ b → link_in other.side (option_map (λ p. (p.0, cond b (with_link place.side next x) p.1)) (in_slot table.rows other.slot)) ≡ link_in other.side (in_slot table.rows other.slot)
      by_test true is = let same = eqb-true other.slot place.slot is in here same (in_slot table.rows other.slot) (ap (λ m. option_map (λ pair. pair.1) (in_slot table.rows m)) same ∙ has)
      by_test false is = away (in_slot table.rows other.slot)

  pub records_kept : KeepRecords table (record table { rows = linked })
  records_kept = record { capacity = refl; rows = rows_there place.slot x (with_link place.side next x) table.rows (once_in First table a place.slot) has (unlinked_same place.side next x) }

  pub place_stays : (other : SideSlot) → HasPlace table.rows other → HasPlace linked other
  place_stays other h = row_keeps table (record table { rows = linked }) records_kept other.slot ∙ h

-- What the floor keeps of its sets, once the open one is closed, and of the first spots.
use Rattle.std.proofs.Common.{◌≡◌, ℕ, ◌<◌, ◌≤◌, ◌+◌, List, [], ◌∷◌, map, Option, Some, None, refl, sym, ap, ◌∙◌, subst, cond, Bool, true, false, eqb, arith}
use Rattle.std.proofs.lemmas.Bool.Decides.{nat_tests}
use Rattle.std.proofs.lemmas.Bool.{eq-eqb}
use Rattle.std.specs.FinMap.{find}
use Rattle.pc_types.specs.declared.Class.TheVariants.{During}
use Rattle.pc_types.specs.Phases.{same_class}
use Rattle.pc_model.specs.Database.{key_cmp, same_bytes, KeysRise}
use Rattle.pc_model.specs.Queues.{IsLegalQueue, IsSettled}
use Rattle.pc_locks.specs.States.{Queues, queue_at}
use Rattle.pc_model.specs.Points.{is_among}
use Rattle.pc_slots.specs.declared.versions.Writer.{Writer}
use Rattle.pc_slots.specs.Slots.{Slot, Pending, pending_of_writer, closed_slot, committed, is_prepared}
use Rattle.pc_dirty.specs.declared.dirty.Dirty.{Dirty}
use Rattle.pc_locks.specs.Keepers as keepers
use Rattle.pc_table.specs.Rows.{Contents}
use Rattle.pc_slots.specs.declared.cells.Cell.{Cell}
use Rattle.pc_records.specs.Ends.{ends_in, queues_in}
use Rattle.pc_records.specs.Rows.{Row, record_of, stored, at_point, is_in_open_set, is_in_closed_set}
use Rattle.pc_records.specs.RowSteps.{closed_row, committed_row}
use Rattle.pc_records.specs.Slots.{slots_in, row_of, rows_of, no_queues, numbers_of, times, AreSlotsKept}
use Rattle.pc_records.specs.SetLists.{IsListed, open_keys, closed_keys}
use Rattle.pc_records.specs.Tables.{first_pinned}
use Rattle.pc_records.specs.Floor.{Spot, Floor, IsFloorWhole, Each, AreSpotsApart, AreSpotsSound, row_in, rows_in, pending_writes, spots_of, floor_of, with_slot_changed, has_spot, unnumbered, first_spot, content_at_point, first_of_closed, committed_at}
use Rattle.pc_records.proofs.Among.{all_are_listed}
use Rattle.pc_records.proofs.Exclusive.{settled_legal}
use Rattle.pc_records.proofs.Moments.{closed_sound, row_closed}
use Rattle.pc_records.proofs.SlotRising.{rise_any}
use Rattle.pc_records.proofs.SpotLaws.{no, spot_of_key, record_in, write_in, found_record, found_write, each_by_key, writes_same}

-- the rows of the spots of slots
pub same_rows : (queues : Queues) (slots : List Slot) → rows_in (spots_of queues slots) ≡ rows_of queues slots
same_rows queues [] = refl
same_rows queues (s ∷ slots) = ap (λ (rows : List Row). row_of queues s ∷ rows) (same_rows queues slots)

all_legal : (queues : Queues) → ((n : ℕ) → IsSettled (queue_at queues n)) → (slots : List Slot) → Each (λ spot. IsLegalQueue spot.queue) (spots_of queues slots)
all_legal queues settled [] = tt
all_legal queues settled (s ∷ slots) = (settled_legal (queue_at queues s.number) (settled s.number), all_legal queues settled slots)

none_has : (queues : Queues) (n : ℕ) (slots : List Slot) → times n (numbers_of slots) ≡ 0 → has_spot (spots_of queues slots) n ≡ false
none_has queues n [] none = refl
none_has queues n (s ∷ slots) none = grind (arith, nat_tests, none_has queues n slots)

all_apart : (queues : Queues) (slots : List Slot) → ((n : ℕ) → times n (numbers_of slots) ≤ 1) → AreSpotsApart (spots_of queues slots)
all_apart queues [] once = tt
all_apart queues (s ∷ slots) once = (none_has queues s.number slots (last (subst (λ b. cond b (times s.number (numbers_of slots) + 1) (times s.number (numbers_of slots)) ≤ 1) (eq-eqb s.number s.number refl) (once s.number))), all_apart queues slots (λ n. rest n (eqb s.number n) (once n)))
  where
    last : times s.number (numbers_of slots) + 1 ≤ 1 → times s.number (numbers_of slots) ≡ 0
    last h = omega (arith, h)

    rest : (n : ℕ) (b : Bool) → cond b (times n (numbers_of slots) + 1) (times n (numbers_of slots)) ≤ 1 → times n (numbers_of slots) ≤ 1
    rest n true h = omega (arith, h)
    rest n false h = h

-- the floor keeps all that a floor keeps
pub whole_there : (table : Contents Cell) (locks : keepers.KeptRequests) (sets : Dirty) → AreSlotsKept (slots_in sets.side table.rows) (queues_in table.rows locks) × keepers.AreEnds (ends_in table.rows) locks × IsListed table.rows sets
    → IsFloorWhole (floor_of table.capacity (queues_in table.rows locks) (slots_in sets.side table.rows) (open_keys table.rows sets) (closed_keys table.rows sets))
whole_there table locks sets keeps =
    let queues = queues_in table.rows locks in
    let slots = slots_in sets.side table.rows in
    let listed = all_are_listed table.rows sets queues keeps.0 keeps.2 table.capacity 0 in
    record {
      rise = subst (λ (rows : List Row). KeysRise rows) (sym (same_rows queues slots)) (rise_any no_queues queues slots keeps.0.rise);
      apart = all_apart queues slots keeps.0.once;
      legal = all_legal queues keeps.1.settled.settled slots;
      listed = record {
        open_set = λ q. ap (λ (rows : List Row). is_in_open_set (record_of rows q)) (same_rows queues slots) ∙ listed.open_set q;
        closed_set = λ q. ap (λ (rows : List Row). is_in_closed_set (record_of rows q)) (same_rows queues slots) ∙ listed.closed_set q;
      };
    }

-- what the first key of the closed set has at the point
pub first_same : (ss : List Spot) (keys : List (List ℕ)) → first_of_closed ss keys ≡ first_pinned (rows_in ss) keys
first_same ss [] = refl
first_same ss (key ∷ keys) = ap (λ (content : Option (List ℕ)). Some (key, content)) (same ss)
  where
    same : (xs : List Spot) → content_at_point xs key ≡ at_point (record_of (rows_in xs) key)
    same [] = refl
    same (x ∷ xs) = elim (same_bytes key x.slot.key) as (λ b. cond b (row_in x).1.pinned (content_at_point xs key) ≡ at_point (cond b (Some (row_in x).1) (record_of (rows_in xs) key))) [ true ↦ refl | false ↦ same xs ]

-- what is committed of a key
pub committed_same : (ss : List Spot) (key : List ℕ) → committed_at ss key ≡ stored (record_of (rows_in ss) key)
committed_same [] key = refl
committed_same (s ∷ ss) key = elim (same_bytes key s.slot.key) as (λ b. cond b (committed s.slot) (committed_at ss key) ≡ stored (cond b (Some (row_in s).1) (record_of (rows_in ss) key))) [ true ↦ refl | false ↦ committed_same ss key ]

-- the open set is closed
module _ (point later : ℕ) (floor : Floor) (whole : IsFloorWhole floor) (sound : AreSpotsSound point floor.spots) (after : point < later) (none : floor.closed ≡ []) (during : (q : List ℕ) (p : Pending) → find key_cmp q (pending_writes floor.spots) ≡ Some p → p.class ≡ During) where
  abbrev IsOpen : Spot → Type 0
  IsOpen s = (s.slot.is_in_closed_set ≡ false) × (is_prepared s.slot.writer ≡ true)

  all_open : Each IsOpen floor.spots
  all_open = each_by_key IsOpen floor.spots whole.rise one
    where
      one : (q : List ℕ) (s : Spot) → spot_of_key floor.spots q ≡ Some s → IsOpen s
      one q s found = (sym (ap is_in_closed_set (found_record floor.spots q ∙ ap record_in found)) ∙ whole.listed.closed_set q ∙ ap (λ keys. is_among keys q) none, by_writer s.slot.writer refl)
        where
          by_writer : (o : Option Writer) → s.slot.writer ≡ o → is_prepared o ≡ true
          by_writer None is = refl
          by_writer (Some w) is = ap (λ c. same_class c During) (during q (record { by = w.transaction; class = w.class; value = s.slot.live }) (found_write floor.spots q whole.rise ∙ ap write_in found ∙ ap (λ o. pending_of_writer o s.slot.live) is))

  pub sound_closed : AreSpotsSound later (map (with_slot_changed closed_slot) floor.spots)
  sound_closed = all floor.spots all_open sound
    where
      all : (ss : List Spot) → Each IsOpen ss → AreSpotsSound point ss → AreSpotsSound later (map (with_slot_changed closed_slot) ss)
      all [] each sound = tt
      all (s ∷ ss) each sound = (closed_sound point later s.queue s.slot after each.0.0 sound.0 each.0.1, all ss each.1 sound.1)

  pub rows_closed : rows_in (map (with_slot_changed closed_slot) floor.spots) ≡ map closed_row (rows_in floor.spots)
  rows_closed = all floor.spots all_open sound
    where
      all : (ss : List Spot) → Each IsOpen ss → AreSpotsSound point ss → rows_in (map (with_slot_changed closed_slot) ss) ≡ map closed_row (rows_in ss)
      all [] each sound = refl
      all (s ∷ ss) each sound =
          ap (λ (r : Row). r ∷ rows_in (map (with_slot_changed closed_slot) ss)) (row_closed point later s.queue s.slot after each.0.0 sound.0 (λ n. s.queue) each.0.1)
          ∙ ap (λ (rows : List Row). closed_row (row_in s) ∷ rows) (all ss each.1 sound.1)

pub writes_closed : (ss : List Spot) → pending_writes (map (with_slot_changed closed_slot) ss) ≡ pending_writes ss
writes_closed = writes_same (with_slot_changed closed_slot) (λ s. refl) (λ s. refl)

-- the first spots
module _ (pairs : List (List ℕ × List ℕ)) where
  pub rows_first : (ss : List Spot) → map unnumbered ss ≡ map first_spot pairs → rows_in ss ≡ map committed_row pairs
  rows_first ss are = numberless ss ∙ ap rows_in are ∙ all pairs
    where
      numberless : (xs : List Spot) → rows_in xs ≡ rows_in (map unnumbered xs)
      numberless [] = refl
      numberless (x ∷ xs) = ap (λ (rows : List Row). row_in x ∷ rows) (numberless xs)

      all : (ps : List (List ℕ × List ℕ)) → rows_in (map first_spot ps) ≡ map committed_row ps
      all [] = refl
      all (p ∷ ps) = ap (λ (rows : List Row). committed_row p ∷ rows) (all ps)

  pub writes_first : (ss : List Spot) → map unnumbered ss ≡ map first_spot pairs → pending_writes ss ≡ []
  writes_first ss are = sym (writes_same unnumbered (λ s. refl) (λ s. refl) ss) ∙ ap pending_writes are ∙ all pairs
    where
      all : (ps : List (List ℕ × List ℕ)) → pending_writes (map first_spot ps) ≡ []
      all [] = refl
      all (p ∷ ps) = all ps

  pub sound_first : (ss : List Spot) → map unnumbered ss ≡ map first_spot pairs → AreSpotsSound 0 ss
  sound_first ss are = back ss (subst (AreSpotsSound 0) (sym are) (all pairs))
    where
      all : (ps : List (List ℕ × List ℕ)) → AreSpotsSound 0 (map first_spot ps)
      all [] = tt
      all (p ∷ ps) = (record { passed = omega arith; holds = λ e. no e; follows = λ e. refl; prepared = λ c e. no c; locked = refl }, all ps)

      back : (xs : List Spot) → AreSpotsSound 0 (map unnumbered xs) → AreSpotsSound 0 xs
      back [] each = tt
      back (x ∷ xs) each = (record { passed = each.0.passed; holds = each.0.holds; follows = each.0.follows; prepared = each.0.prepared; locked = each.0.locked }, back xs each.1)

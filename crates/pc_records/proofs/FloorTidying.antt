-- The floor of slots, where one of them that nothing keeps is free.
use Rattle.std.proofs.Common.{◌≡◌, ℕ, ◌+◌, ◌≤◌, List, [], ◌∷◌, length, filter, not, Some, is_some, option_map, refl, sym, ap, ◌∙◌, subst, cond, Bool, true, false, eqb, ◌||◌, arith}
use Rattle.std.proofs.lemmas.Bool.Decides.{nat_tests}
use Rattle.pc_model.specs.Locks.{Queue}
use Rattle.pc_locks.specs.States.{Queues, queue_at}
use Rattle.pc_locks.specs.Keepers as keepers
use Rattle.pc_dirty.specs.declared.side.Side.{Side}
use Rattle.pc_dirty.specs.declared.dirty.Dirty.{Dirty}
use Rattle.pc_table.specs.Rows.{TableRow, Contents, AreInSlots, in_slot, without_slot}
use Rattle.pc_table.proofs.RowLaws.{no_row}
use Rattle.pc_slots.specs.declared.cells.Cell.{Cell}
use Rattle.pc_slots.specs.Slots.{Slot, slot_with, is_kept_slot, is_held}
use Rattle.pc_records.specs.Ends.{ends_in, queues_in}
use Rattle.pc_records.specs.Slots.{slots_in, slot_in, times, numbers_of, AreSlotsKept}
use Rattle.pc_records.specs.SetLists.{KeepSets, IsListed, open_keys, closed_keys}
use Rattle.pc_records.specs.Floor.{Spot, spot_of, spots_of, floor_of, is_needed, tidied}
use Rattle.pc_records.proofs.EndsKept.{ends_left, queues_left}
use Rattle.pc_records.proofs.KeepingSets.{sets_without}
use Rattle.pc_records.proofs.Listing.{kept_listed, kept_open, kept_closed}
use Rattle.pc_records.proofs.Marking.{nothing_marked}
use Rattle.pc_records.proofs.TableSlots.{slots_rise}

-- if nothing keeps a slot there is no request there
pub no_request : (queue : Queue) (slot : Slot) → is_kept_slot queue slot ≡ false → queue ≡ []
no_request queue slot nothing = by_test (is_some slot.live) (is_held slot.stable) (slot.is_in_open_set || slot.is_in_closed_set) queue nothing
  where
    by_test : (a b c : Bool) (q : Queue) → (a || (b || (not (eqb (length q) 0) || c))) ≡ false → q ≡ []
    by_test a b c [] e = refl
    by_test true b c (r ∷ rs) e = absurd cc
    by_test false true c (r ∷ rs) e = absurd cc
    by_test false false c (r ∷ rs) e =
        let some : eqb (length (r ∷ rs)) 0 ≡ false = grind (arith, nat_tests) in
        absurd (no (sym (ap (λ b. not b || c) some) ∙ e))
      where
        no : true ≡ false → ⊥
        no e = cc

module _ (side : Side) (queues : Queues) (id : ℕ) where
  abbrev pub spots : List (TableRow Cell) → List Spot
  spots rows = spots_of queues (slots_in side rows)

  -- the others stay
  others_stay : (rows : List (TableRow Cell)) → times id (numbers_of (slots_in side rows)) ≡ 0 → tidied id (spots rows) ≡ spots rows
  others_stay [] none = refl
  others_stay (row ∷ rows) none = grind (arith, nat_tests, others_stay rows)

  rows_stay : (rows : List (TableRow Cell)) → times id (numbers_of (slots_in side rows)) ≡ 0 → spots (filter (λ row. not (eqb row.1.0 id)) rows) ≡ spots rows
  rows_stay [] none = refl
  rows_stay (row ∷ rows) none = grind (arith, nat_tests, rows_stay rows)

  module _ (x : Cell) where
    abbrev is_kept_here : Bool
    is_kept_here = is_kept_slot (queue_at queues id) (slot_with side id [] x)

    test : (row : TableRow Cell) → row.1.0 ≡ id → row.1.1 ≡ x → is_needed (spot_of queues (slot_in side row)) ≡ is_kept_here
    test row number cell = ap (λ n. is_kept_slot (queue_at queues n) (slot_with side n row.0 row.1.1)) number ∙ ap (λ y. is_kept_slot (queue_at queues id) (slot_with side id [] y)) cell

    last_one : (n : ℕ) → n + 1 ≤ 1 → n ≡ 0
    last_one n h = omega (arith, h)

    pub needed_stays : (rows : List (TableRow Cell)) → times id (numbers_of (slots_in side rows)) ≤ 1 → option_map (λ pair. pair.1) (in_slot rows id) ≡ Some x → is_kept_here ≡ true → tidied id (spots rows) ≡ spots rows
    needed_stays [] once has needed = absurd (no_row has)
    needed_stays (row ∷ rows) once has needed = grind (arith, nat_tests, needed_stays rows, others_stay rows, test row)

    pub needless_goes : (rows : List (TableRow Cell)) → times id (numbers_of (slots_in side rows)) ≤ 1 → option_map (λ pair. pair.1) (in_slot rows id) ≡ Some x → is_kept_here ≡ false → spots (filter (λ row. not (eqb row.1.0 id)) rows) ≡ tidied id (spots rows)
    needless_goes [] once has nothing = refl
    needless_goes (row ∷ rows) once has nothing = grind (arith, nat_tests, needless_goes rows, others_stay rows, rows_stay rows, test row)

  -- how often a number occurs among the slots that are left
  left_times : (n : ℕ) (rows : List (TableRow Cell)) → times n (numbers_of (slots_in side (filter (λ row. not (eqb row.1.0 id)) rows))) ≡ cond (eqb n id) 0 (times n (numbers_of (slots_in side rows)))
  left_times n [] = grind arith
  left_times n (row ∷ rows) = grind (arith, nat_tests, left_times n rows)

  pub kept_left : (table new : Contents Cell) → new ≡ without_slot table id → AreInSlots new → queue_at queues id ≡ [] → AreSlotsKept (slots_in side table.rows) queues → AreSlotsKept (slots_in side new.rows) queues
  kept_left table new gone after empty kept = record {
    rise = slots_rise side new.rows after.rise;
    once = λ n. subst (λ k. k ≤ 1) (sym (count n)) (elim (eqb n id) as (λ b. cond b 0 (times n (numbers_of (slots_in side table.rows))) ≤ 1) [ true ↦ omega arith | false ↦ kept.once n ]);
    bare = λ n none. by_test n (eqb n id) refl (sym (count n) ∙ none);
  }
    where
      count : (n : ℕ) → times n (numbers_of (slots_in side new.rows)) ≡ cond (eqb n id) 0 (times n (numbers_of (slots_in side table.rows)))
      count n = ap (λ (t : Contents Cell). times n (numbers_of (slots_in side t.rows))) gone ∙ left_times n table.rows

      by_test : (n : ℕ) (b : Bool) → eqb n id ≡ b → cond b 0 (times n (numbers_of (slots_in side table.rows))) ≡ 0 → queue_at queues n ≡ []
      by_test n true is none =
          let same : n ≡ id = grind (arith, nat_tests, is) in
          ap (queue_at queues) same ∙ empty
      by_test n false is none = kept.bare n none

module _ (table : Contents Cell) (locks : keepers.KeptRequests) (sets : Dirty) (side : Side) (is : side ≡ sets.side) (id : ℕ) (x : Cell) (has : option_map (λ pair. pair.1) (in_slot table.rows id) ≡ Some x) (kept : AreSlotsKept (slots_in sets.side table.rows) (queues_in table.rows locks)) where
  abbrev Needed : Bool → Type 0
  Needed b = is_kept_slot (queue_at (queues_in table.rows locks) id) (slot_with side id [] x) ≡ b

  here : (b : Bool) → Needed b → is_kept_slot (queue_at (queues_in table.rows locks) id) (slot_with sets.side id [] x) ≡ b
  here b needed = subst (λ (s : Side). is_kept_slot (queue_at (queues_in table.rows locks) id) (slot_with s id [] x) ≡ b) is needed

  pub floor_needed : Needed true → floor_of table.capacity (queues_in table.rows locks) (slots_in sets.side table.rows) (open_keys table.rows sets) (closed_keys table.rows sets)
      ≡ record (floor_of table.capacity (queues_in table.rows locks) (slots_in sets.side table.rows) (open_keys table.rows sets) (closed_keys table.rows sets)) { spots = tidied id (spots_of (queues_in table.rows locks) (slots_in sets.side table.rows)) }
  floor_needed needed = λ i. record {
    capacity = table.capacity;
    spots = sym (needed_stays sets.side (queues_in table.rows locks) id x table.rows (kept.once id) has (here true needed)) i;
    opened = open_keys table.rows sets;
    closed = closed_keys table.rows sets;
  }

  module _ (new : Contents Cell) (gone : new ≡ without_slot table id) (nothing : Needed false) where
    empty : queue_at (queues_in table.rows locks) id ≡ []
    empty = no_request (queue_at (queues_in table.rows locks) id) (slot_with side id [] x) nothing

    same_queues : queues_in new.rows locks ≡ queues_in table.rows locks
    same_queues = queues_left table new id gone locks empty

    keep : KeepSets table.rows new.rows
    keep = sets_without table new id x has (nothing_marked side (queue_at (queues_in table.rows locks) id) id x nothing) gone

    pub kept_needless : AreInSlots new → AreSlotsKept (slots_in sets.side new.rows) (queues_in new.rows locks)
    kept_needless after = subst (AreSlotsKept (slots_in sets.side new.rows)) (sym same_queues) (kept_left sets.side (queues_in table.rows locks) id table new gone after empty kept)

    pub ends_needless : keepers.AreEnds (ends_in table.rows) locks → keepers.AreEnds (ends_in new.rows) locks
    ends_needless ends = ends_left table new id gone locks empty ends

    pub listed_needless : IsListed table.rows sets → IsListed new.rows sets
    listed_needless listed = kept_listed table.rows new.rows sets keep listed

    pub floor_needless : IsListed table.rows sets → floor_of new.capacity (queues_in new.rows locks) (slots_in sets.side new.rows) (open_keys new.rows sets) (closed_keys new.rows sets)
        ≡ record (floor_of table.capacity (queues_in table.rows locks) (slots_in sets.side table.rows) (open_keys table.rows sets) (closed_keys table.rows sets)) { spots = tidied id (spots_of (queues_in table.rows locks) (slots_in sets.side table.rows)) }
    floor_needless listed = λ i. record {
      capacity = ap (λ (t : Contents Cell). t.capacity) gone i;
      spots =
          (ap (λ qs. spots_of qs (slots_in sets.side new.rows)) same_queues ∙ ap (λ (t : Contents Cell). spots_of (queues_in table.rows locks) (slots_in sets.side t.rows)) gone
          ∙ needless_goes sets.side (queues_in table.rows locks) id x table.rows (kept.once id) has (here false nothing)) i;
      opened = kept_open table.rows new.rows sets keep listed i;
      closed = kept_closed table.rows new.rows sets keep listed i;
    }

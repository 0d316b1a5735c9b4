-- A key is in a set if it is among the keys of its list.
use Rattle.std.proofs.Common.{◌≡◌, ℕ, List, [], ◌∷◌, ◌↔◌, ◌+◌, ◌≤◌, arith, Option, Some, None, option_map, refl, sym, ap, ◌∙◌, cond, Bool, true, false, eqb, ◌||◌}
use Rattle.std.proofs.lemmas.Bool.{eqb-true, eq-eqb}
use Rattle.std.specs.FinMap.{find}
use Rattle.pc_model.specs.Database.{key_cmp, same_bytes}
use Rattle.pc_locks.specs.States.{Queues}
use Rattle.pc_model.specs.Points.{is_among}
use Rattle.pc_model.proofs.JoinLaws.{one_key}
use Rattle.pc_chain.specs.Chains.{AllHave, first_of}
use Rattle.pc_dirty.specs.declared.side.Side.{Side}
use Rattle.pc_dirty.specs.declared.dirty.Dirty.{Dirty}
use Rattle.pc_dirty.specs.Sets.{other_side}
use Rattle.pc_table.specs.Rows.{TableRow, in_slot}
use Rattle.pc_table.proofs.RowLaws.{no_row, same_some, slot_found, found_has}
use Rattle.pc_slots.specs.declared.cells.Cell.{Cell}
use Rattle.pc_slots.specs.Words.{is_marked}
use Rattle.pc_records.specs.Rows.{Row, record_of, at_point, is_in_open_set, is_in_closed_set}
use Rattle.pc_records.specs.Tables.{AreListed, first_pinned}
use Rattle.pc_slots.specs.Slots.{pinned, slot_with}
use Rattle.pc_records.specs.Slots.{slots_in, rows_of, table_of, numbers_of, times, AreSlotsKept}
use Rattle.pc_records.specs.SetLists.{marked_in, key_in, keys_at, is_among_slots, open_slots, closed_slots, IsListed, open_keys, closed_keys}
use Rattle.pc_records.proofs.Lookups.{find_row, record_in, same_self}
use Rattle.pc_records.proofs.TableSlots.{cell_of, find_slots, number_has, rows_rise}
use Rattle.pc_records.proofs.Listing.{all_listed}

-- a slot that is marked has a row
pub record HasKey (rows : List (TableRow Cell)) (slot : ℕ) : Type 0 where
  pub key : List ℕ
  pub cell : Cell
  pub here : in_slot rows slot ≡ Some (key, cell)

marked_row : (rows : List (TableRow Cell)) (side : Side) (slot : ℕ) → marked_in side (in_slot rows slot) ≡ true → HasKey rows slot
marked_row rows side slot m = by_row (in_slot rows slot) refl m
  where
    by_row : (o : Option (List ℕ × Cell)) → in_slot rows slot ≡ o → marked_in side o ≡ true → HasKey rows slot
    by_row None e m = absurd cc
    by_row (Some p) e m = record { key = p.0; cell = p.1; here = e }

-- what is found in a slot is what is found of its key
abbrev pub AreFound : List (TableRow Cell) → Type 0
AreFound rows = (id : ℕ) (key : List ℕ) (x : Cell) → (in_slot rows id ≡ Some (key, x)) ↔ (find key_cmp key rows ≡ Some (id, x))

module _ (rows : List (TableRow Cell)) (each : AreFound rows) (q : List ℕ) where
  -- of slots with rows that with the key is that which the key has
  among_some : (n : ℕ) (x : Cell) → find key_cmp q rows ≡ Some (n, x) → (slots : List ℕ) → AllHave (HasKey rows) slots → is_among (keys_at rows slots) q ≡ is_among_slots slots n
  among_some n x found [] h = refl
  among_some n x found (m ∷ ms) h = ap (λ b. b || is_among (keys_at rows ms) q) (one m h.0) ∙ ap (λ b. eqb m n || b) (among_some n x found ms h.1)
    where
      same_number : (m : ℕ) (y : Cell) → find key_cmp q rows ≡ Some (m, y) → m ≡ n
      same_number m y e = ap (λ (p : ℕ × Cell). p.0) (same_some (sym e ∙ found))

      by_test : (m : ℕ) (r : HasKey rows m) (s t : Bool) → same_bytes q r.key ≡ s → eqb m n ≡ t → s ≡ t
      by_test m r true true e f = refl
      by_test m r false false e f = refl
      by_test m r true false e f =
          let there : find key_cmp q rows ≡ Some (m, r.cell) = ap (λ k. find key_cmp k rows) (one_key q r.key e) ∙ (each m r.key r.cell).0 r.here in
          absurd (let g : eqb m n ≡ true = eq-eqb m n (same_number m r.cell there) in let z : true ≡ false = sym g ∙ f in cc)
      by_test m r false true e f =
          let there : in_slot rows n ≡ Some (q, x) = (each n q x).1 found in
          let k : r.key ≡ q = ap (λ (p : List ℕ × Cell). p.0) (same_some (sym r.here ∙ (ap (in_slot rows) (eqb-true m n f) ∙ there))) in
          absurd (let g : same_bytes q r.key ≡ true = ap (same_bytes q) k ∙ same_self q in let z : true ≡ false = sym g ∙ e in cc)

      one : (m : ℕ) → HasKey rows m → same_bytes q (key_in (in_slot rows m)) ≡ eqb m n
      one m r = ap (λ o. same_bytes q (key_in o)) r.here ∙ by_test m r (same_bytes q r.key) (eqb m n) refl refl

  among_none : find key_cmp q rows ≡ None → (slots : List ℕ) → AllHave (HasKey rows) slots → is_among (keys_at rows slots) q ≡ false
  among_none none [] h = refl
  among_none none (m ∷ ms) h = ap (λ b. b || is_among (keys_at rows ms) q) (one m h.0) ∙ among_none none ms h.1
    where
      by_test : (m : ℕ) (r : HasKey rows m) (s : Bool) → same_bytes q r.key ≡ s → s ≡ false
      by_test m r false e = refl
      by_test m r true e = absurd (no_row (sym none ∙ (ap (λ k. find key_cmp k rows) (one_key q r.key e) ∙ (each m r.key r.cell).0 r.here)))

      one : (m : ℕ) → HasKey rows m → same_bytes q (key_in (in_slot rows m)) ≡ false
      one m r = ap (λ o. same_bytes q (key_in o)) r.here ∙ by_test m r (same_bytes q r.key) refl

  -- the mark of the key's slot
  abbrev mark_found : Side → Option (ℕ × Cell) → Bool
  mark_found side None = false
  mark_found side (Some p) = is_marked side p.1

  among_is : (side : Side) (slots : List ℕ) → ((slot : ℕ) → marked_in side (in_slot rows slot) ≡ is_among_slots slots slot) → mark_found side (find key_cmp q rows) ≡ is_among (keys_at rows slots) q
  among_is side slots marks = by_place (find key_cmp q rows) refl
    where
      all : AllHave (HasKey rows) slots
      all = all_listed (HasKey rows) slots (λ slot e. marked_row rows side slot (marks slot ∙ e))

      by_place : (o : Option (ℕ × Cell)) → find key_cmp q rows ≡ o → mark_found side o ≡ is_among (keys_at rows slots) q
      by_place None e = sym (among_none e slots all)
      by_place (Some p) e = sym (ap (marked_in side) ((each p.0 q p.1).1 e)) ∙ (marks p.0 ∙ sym (among_some p.0 p.1 e slots all))

-- if no two slots have one number, so it is of the slots that are kept
found_in : (side : Side) (rows : List (TableRow Cell)) (q : List ℕ) (n : ℕ) (x : Cell) → times n (numbers_of (slots_in side rows)) ≤ 1 → find key_cmp q rows ≡ Some (n, x) → in_slot rows n ≡ Some (q, x)
found_in side [] q n x once e = absurd (no_row e)
found_in side (row ∷ rows) q n x once e = by_test (same_bytes q row.0) (eqb row.1.0 n) refl refl once e (found_in side rows q n x)
  where
    by_test : (s t : Bool) → same_bytes q row.0 ≡ s → eqb row.1.0 n ≡ t → cond t (times n (numbers_of (slots_in side rows)) + 1) (times n (numbers_of (slots_in side rows))) ≤ 1 → cond s (Some row.1) (find key_cmp q rows) ≡ Some (n, x) →
        (times n (numbers_of (slots_in side rows)) ≤ 1 → find key_cmp q rows ≡ Some (n, x) → in_slot rows n ≡ Some (q, x)) → cond t (Some (row.0, row.1.1)) (in_slot rows n) ≡ Some (q, x)
    by_test true true s t once e rest = ap (λ k. Some (k, row.1.1)) (sym (one_key q row.0 s)) ∙ ap (λ (p : ℕ × Cell). Some (q, p.1)) (same_some e)
    by_test true false s t once e rest = absurd (let f : eqb row.1.0 n ≡ true = eq-eqb row.1.0 n (ap (λ (p : ℕ × Cell). p.0) (same_some e)) in let z : true ≡ false = sym f ∙ t in cc)
    by_test false true s t once e rest = absurd (let more = number_has side rows n (found_has rows n q x e) in omega (arith, once, more))
    by_test false false s t once e rest = rest once e

pub each_found : (side : Side) (rows : List (TableRow Cell)) (queues : Queues) → AreSlotsKept (slots_in side rows) queues → AreFound rows
each_found side rows queues kept id key x = (slot_found rows id key x (rows_rise side rows kept.rise), found_in side rows key id x (kept.once id))

-- the keys of both sets are listed
pub all_are_listed : (rows : List (TableRow Cell)) (sets : Dirty) (queues : Queues) → AreSlotsKept (slots_in sets.side rows) queues → IsListed rows sets → (capacity point : ℕ) → AreListed (table_of capacity queues (slots_in sets.side rows) point (open_keys rows sets) (closed_keys rows sets))
all_are_listed rows sets queues kept l capacity point = record {
  open_set = λ q. ap is_in_open_set (found q) ∙ (opened q (find key_cmp q rows) ∙ among_is rows (each_found sets.side rows queues kept) q sets.side (open_slots rows sets) l.open_marks);
  closed_set = λ q. ap is_in_closed_set (found q) ∙ (shut q (find key_cmp q rows) ∙ among_is rows (each_found sets.side rows queues kept) q (other_side sets.side) (closed_slots rows sets) l.closed_marks);
}
  where
    found : (q : List ℕ) → record_of (rows_of queues (slots_in sets.side rows)) q ≡ record_in queues (option_map (cell_of sets.side q) (find key_cmp q rows))
    found q = find_row queues (slots_in sets.side rows) q ∙ ap (record_in queues) (find_slots sets.side rows q)

    opened : (q : List ℕ) (o : Option (ℕ × Cell)) → is_in_open_set (record_in queues (option_map (cell_of sets.side q) o)) ≡ mark_found rows (each_found sets.side rows queues kept) q sets.side o
    opened q None = refl
    opened q (Some p) = refl

    shut : (q : List ℕ) (o : Option (ℕ × Cell)) → is_in_closed_set (record_in queues (option_map (cell_of sets.side q) o)) ≡ mark_found rows (each_found sets.side rows queues kept) q (other_side sets.side) o
    shut q None = refl
    shut q (Some p) = refl

-- the first key of the closed set, with what it has at the point
pub first_there : (rows : List (TableRow Cell)) (sets : Dirty) (queues : Queues) → AreSlotsKept (slots_in sets.side rows) queues → (id : ℕ) → Some id ≡ first_of (closed_slots rows sets) → (o : Option (List ℕ)) (p : Option Cell) (key : List ℕ) (x : Cell) → o ≡ Some key → p ≡ Some x →
    option_map (λ pair. pair.0) (in_slot rows id) ≡ o → option_map (λ pair. pair.1) (in_slot rows id) ≡ p → Some (key, pinned (slot_with sets.side 0 [] x)) ≡ first_pinned (rows_of queues (slots_in sets.side rows)) (closed_keys rows sets)
first_there rows sets queues kept id first o p key x o_is p_is has_key has_cell = by_list (closed_slots rows sets) first
  where
    pair_of : (r : Option (List ℕ × Cell)) → option_map (λ pair. pair.0) r ≡ Some key → option_map (λ pair. pair.1) r ≡ Some x → r ≡ Some (key, x)
    pair_of None e f = absurd (no_row e)
    pair_of (Some r) e f = λ i. Some (same_some e i, same_some f i)

    here : in_slot rows id ≡ Some (key, x)
    here = pair_of (in_slot rows id) (has_key ∙ o_is) (has_cell ∙ p_is)

    there : record_of (rows_of queues (slots_in sets.side rows)) key ≡ record_in queues (Some (slot_with sets.side id key x))
    there = find_row queues (slots_in sets.side rows) key ∙ (ap (record_in queues) (find_slots sets.side rows key) ∙ ap (λ r. record_in queues (option_map (cell_of sets.side key) r)) ((each_found sets.side rows queues kept id key x).0 here))

    by_list : (slots : List ℕ) → Some id ≡ first_of slots → Some (key, pinned (slot_with sets.side 0 [] x)) ≡ first_pinned (rows_of queues (slots_in sets.side rows)) (keys_at rows slots)
    by_list [] e = absurd cc
    by_list (m ∷ ms) e =
        let k : key ≡ key_in (in_slot rows m) = sym (ap key_in here) ∙ ap (λ n. key_in (in_slot rows n)) (same_some e) in
        ap (λ c. Some (key, c)) (sym (ap at_point there)) ∙ ap (λ r. Some (r, at_point (record_of (rows_of queues (slots_in sets.side rows)) r))) k

pub first_absent : (rows : List (TableRow Cell)) (sets : Dirty) (kept : List Row) → None ≡ first_of (closed_slots rows sets) → None ≡ first_pinned kept (closed_keys rows sets)
first_absent rows sets kept e = by_list (closed_slots rows sets) e
  where
    by_list : (slots : List ℕ) → None ≡ first_of slots → None ≡ first_pinned kept (keys_at rows slots)
    by_list [] e = refl
    by_list (m ∷ ms) e = absurd (no_row e)

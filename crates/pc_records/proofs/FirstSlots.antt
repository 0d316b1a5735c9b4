-- The slots of pairs that ascend, in order.
use Rattle.std.proofs.Common.{◌≡◌, ℕ, zero, suc, ◌+◌, ◌<◌, List, [], ◌∷◌, ◌++◌, length, map, take, get_or, Option, Some, None, option_map, true, false, cond, refl, sym, ap, ◌∙◌, subst, ◌&&◌, arith}
use Rattle.std.specs.Ordering.{is_lt, is_eq}
use Rattle.std.specs.declared.cmp.Ordering.{Ordering}
use Rattle.std.specs.declared.cmp.Ordering.TheVariants.{Less, Equal, Greater}
use Rattle.std.specs.FinMap.{find, put, is_sorted}
use Rattle.std.specs.FinMap.Entries.{below_all, by_order, find-put, find-append, is_sorted-put}
use Rattle.std.proofs.lemmas.List.{take_more}
use Rattle.pc_model.specs.Database.{KeysRise, key_cmp, key_order}
use Rattle.pc_model.proofs.PairMapLaws.{computes, tested}
use Rattle.pc_model.proofs.RisingLaws.{both, and_of, Rise}
use Rattle.pc_table.specs.Rows.{TableRow, Contents, slot_of as table_slot, with_row, AreInSlots}
use Rattle.pc_table.proofs.RowLaws.{no_row, same_rows}
use Rattle.pc_locks.specs.States.{Queues, queue_at}
use Rattle.pc_slots.specs.declared.cells.Cell.{Cell}
use Rattle.pc_slots.specs.Slots.{base_cell}
use Rattle.pc_records.specs.Slots.{slots_in, cells_in, base_row, AreSlotsKept}
use Rattle.pc_records.proofs.Lookups.{same_turned}
use Rattle.pc_records.proofs.TableSlots.{slots_rise, once_in}
use Rattle.pc_dirty.specs.declared.side.Side.{Side}

cells_put : (key : List ℕ) (n : ℕ) (x : Cell) (rows : List (TableRow Cell)) → cells_in (put key_cmp key (n, x) rows) ≡ put key_cmp key x (cells_in rows)
cells_put key n x [] = refl
cells_put key n x (row ∷ rows) = by_test (key_cmp key row.0) (cells_put key n x rows)
  where
    by_test : (o : Ordering) → cells_in (put key_cmp key (n, x) rows) ≡ put key_cmp key x (cells_in rows) →
        cells_in (by_order o ((key, (n, x)) ∷ row ∷ rows) ((row.0, (n, x)) ∷ rows) (row ∷ put key_cmp key (n, x) rows)) ≡ by_order o ((key, x) ∷ (row.0, row.1.1) ∷ cells_in rows) ((row.0, x) ∷ cells_in rows) ((row.0, row.1.1) ∷ put key_cmp key x (cells_in rows))
    by_test Less rest = refl
    by_test Equal rest = refl
    by_test Greater rest = ap (λ (cs : List (List ℕ × Cell)). (row.0, row.1.1) ∷ cs) rest

cells_found : (key : List ℕ) (rows : List (TableRow Cell)) → find key_cmp key (cells_in rows) ≡ option_map (λ place. place.1) (find key_cmp key rows)
cells_found key [] = refl
cells_found key (row ∷ rows) = grind (arith, cells_found key rows)

less_apart : (o : Ordering) → is_lt o ≡ true → is_eq o ≡ false
less_apart Less e = refl
less_apart Equal e = cc
less_apart Greater e = cc

-- pairs in front of one more
below_front : (key : List ℕ) (ps : List (List ℕ × List ℕ)) (p : List ℕ × List ℕ) → below_all key_cmp key (ps ++ p ∷ []) ≡ true → (below_all key_cmp key ps ≡ true) × (is_lt (key_cmp key p.0) ≡ true)
below_front key [] p e = (refl, (both (is_lt (key_cmp key p.0)) true e).0)
below_front key (q ∷ ps) p e =
    let parts = both (is_lt (key_cmp key q.0)) (below_all key_cmp key (ps ++ p ∷ [])) e in
    let rest = below_front key ps p parts.1 in
    (and_of (is_lt (key_cmp key q.0)) (below_all key_cmp key ps) parts.0 rest.0, rest.1)

last_new : (ps : List (List ℕ × List ℕ)) (p : List ℕ × List ℕ) → Rise (ps ++ p ∷ []) → find key_cmp p.0 (map base_row ps) ≡ None
last_new [] p rise = refl
last_new (q ∷ ps) p rise =
    let parts = both (below_all key_cmp q.0 (ps ++ p ∷ [])) (is_sorted key_cmp (ps ++ p ∷ [])) rise in
    ap (λ b. cond b (Some (base_row q).1) (find key_cmp p.0 (map base_row ps))) (same_turned p.0 q.0 ∙ less_apart (key_cmp q.0 p.0) (below_front q.0 ps p parts.0).1) ∙ last_new ps p parts.1

below_take : (key : List ℕ) (ps : List (List ℕ × List ℕ)) (n : ℕ) → below_all key_cmp key ps ≡ true → below_all key_cmp key (take n ps) ≡ true
below_take key ps zero e = refl
below_take key [] (suc n) e = refl
below_take key (p ∷ ps) (suc n) e = let parts = both (is_lt (key_cmp key p.0)) (below_all key_cmp key ps) e in and_of (is_lt (key_cmp key p.0)) (below_all key_cmp key (take n ps)) parts.0 (below_take key ps n parts.1)

rise_take : (ps : List (List ℕ × List ℕ)) (n : ℕ) → Rise ps → Rise (take n ps)
rise_take ps zero rise = refl
rise_take [] (suc n) rise = refl
rise_take (p ∷ ps) (suc n) rise =
    let parts = both (below_all key_cmp p.0 ps) (is_sorted key_cmp ps) rise in
    and_of (below_all key_cmp p.0 (take n ps)) (is_sorted key_cmp (take n ps)) (below_take p.0 ps n parts.0) (rise_take ps n parts.1)

below_base : (key : List ℕ) (ps : List (List ℕ × List ℕ)) → below_all key_cmp key (map base_row ps) ≡ below_all key_cmp key ps
below_base key [] = refl
below_base key (p ∷ ps) = ap (λ b. is_lt (key_cmp key p.0) && b) (below_base key ps)

base_rise : (ps : List (List ℕ × List ℕ)) → is_sorted key_cmp (map base_row ps) ≡ is_sorted key_cmp ps
base_rise [] = refl
base_rise (p ∷ ps) = rw (below_base p.0 ps, base_rise ps) refl

base_more : (ps : List (List ℕ × List ℕ)) (p : List ℕ × List ℕ) → map base_row (ps ++ p ∷ []) ≡ map base_row ps ++ base_row p ∷ []
base_more [] p = refl
base_more (q ∷ ps) p = ap (λ (cs : List (List ℕ × Cell)). base_row q ∷ cs) (base_more ps p)

-- the slots of the first i pairs are in the table
module _ (pairs : List (List ℕ × List ℕ)) (rise : KeysRise pairs) (i : ℕ) (pair : List ℕ × List ℕ) (lt : i < length pairs) (is : pair ≡ get_or pairs i pair) (old : Contents Cell) (are : cells_in old.rows ≡ map base_row (take i pairs)) where
  one_more : take (i + 1) pairs ≡ take i pairs ++ pair ∷ []
  one_more = take_more pairs i pair lt ∙ ap (λ p. take i pairs ++ p ∷ []) (sym is)

  front : Rise (take i pairs ++ pair ∷ [])
  front = subst (λ (ps : List (List ℕ × List ℕ)). Rise ps) one_more (rise_take pairs (i + 1) rise)

  none : find key_cmp pair.0 (cells_in old.rows) ≡ None
  none = ap (find key_cmp pair.0) are ∙ last_new (take i pairs) pair front

  pub pair_new : table_slot old.rows pair.0 ≡ None
  pair_new = by_place (find key_cmp pair.0 old.rows) (sym (cells_found pair.0 old.rows) ∙ none)
    where
      by_place : (o : Option (ℕ × Cell)) → option_map (λ place. place.1) o ≡ None → option_map (λ place. place.0) o ≡ None
      by_place None e = refl
      by_place (Some p) e = absurd (no_row (sym e))

  pub pairs_next : (new : Contents Cell) (id : ℕ) → new ≡ with_row old pair.0 id (base_cell (Some pair.1)) → cells_in new.rows ≡ map base_row (take (i + 1) pairs)
  pairs_next new id made =
      ap (λ (t : Contents Cell). cells_in t.rows) made ∙ cells_put pair.0 id (base_cell (Some pair.1)) old.rows ∙ ap (put key_cmp pair.0 (base_cell (Some pair.1))) are
      ∙ same_rows (put key_cmp pair.0 (base_cell (Some pair.1)) (map base_row (take i pairs))) (map base_row (take i pairs) ++ base_row pair ∷ []) (rise_cells (map base_row (take i pairs)) (base_rise (take i pairs) ∙ rise_take pairs i rise))
      (subst (λ (cs : List (List ℕ × Cell)). Rise cs) (base_more (take i pairs) pair) (base_rise (take i pairs ++ pair ∷ []) ∙ front))
      (λ q. find-put key_cmp key_order.total q pair.0 (base_cell (Some pair.1)) (map base_row (take i pairs)) ∙ sym (find-append key_cmp key_order.total (map base_row (take i pairs)) pair.0 (base_cell (Some pair.1)) q (last_new (take i pairs) pair front)))
      ∙ sym (ap (map base_row) one_more ∙ base_more (take i pairs) pair)
    where
      rise_cells : (cs : List (List ℕ × Cell)) → Rise cs → Rise (put key_cmp pair.0 (base_cell (Some pair.1)) cs)
      rise_cells cs r = tested (is_sorted-put key_cmp key_order.total pair.0 (base_cell (Some pair.1)) cs (computes r))

module _ (side : Side) where
  -- what the first slots keep
  pub kept_first : (table : Contents Cell) (queues : Queues) → AreInSlots table → ((n : ℕ) → queue_at queues n ≡ []) → AreSlotsKept (slots_in side table.rows) queues
  kept_first table queues a empty = record {
    rise = slots_rise side table.rows a.rise;
    once = once_in side table a;
    bare = λ n none. empty n;
  }

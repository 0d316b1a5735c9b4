-- What the arena keeps of its cells once one of them is written.
use Rattle.std.proofs.Common.{◌≡◌, ℕ, suc, ◌+◌, ◌-◌, ◌<◌, List, [], ◌∷◌, ◌++◌, length, get_or, set, Option, Some, None, is_none, false, ◌≤◌, subst, arith, refl, sym, ap, ◌∙◌, length-set}
use Rattle.std.proofs.lemmas.List.{length-map, length_push, map_push}
use Rattle.pc_types.specs.declared.limits.TheConstants.{MOST_KEYS}
use Rattle.pc_chain.specs.declared.chain.Chain.{Chain}
use Rattle.pc_chain.specs.Chains.{first_of, rest_of, Avoids, IsChain, IsEmpty}
use Rattle.pc_chain.proofs.ChainLaws.{empty_chain}
use Rattle.pc_arena.specs.declared.cells.ArenaCell.{ArenaCell}
use Rattle.pc_chain.specs.Slots.{Slots, at, is_full, with_item, IsTaken, IsFree, AllFree}
use Rattle.pc_arena.specs.Cells.{IsFreeList, AreCellsKept, item_of, link_of, items_of, links_of, slots_of, padded, unwritten}
use Rattle.pc_chain.proofs.SlotLaws.{at_other, taken_below}
use Rattle.pc_arena.proofs.Columns.{map_same, column_set, column_here}
use Rattle.pc_arena.proofs.Padding.{at_padded, length_padded, set_padded, padded_set, padded_push, padded_none, padded_not_full}
use Rattle.pc_arena.proofs.FreeLists.{free_taken_first, free_given, free_linked, free_changed, full_is, free_fresh}

module _ {T : Type 0} where
  pub taken_in : (cells : List (ArenaCell T)) (id : ℕ) → IsTaken (items_of cells) id → id < length cells
  taken_in cells id h = let r = taken_below (items_of cells) id h in let l = length-map cells item_of in omega (arith, r, l)

  -- a slot that is seen with a record has one in its cell
  pub taken_seen : (m : ℕ) (cells : List (ArenaCell T)) (s : Slots T) (id : ℕ) → slots_of m cells ≡ s → IsTaken s.items id → IsTaken (items_of cells) id
  taken_seen m cells s id e h =
      let t : IsTaken (padded (unwritten m cells) (items_of cells)) id = subst (λ (s : Slots T). IsTaken s.items id) (sym e) h in
      rw (at_padded (unwritten m cells) (items_of cells) id) at t

  -- what is seen at a slot is what its cell has
  pub seen_item : (m : ℕ) (cells : List (ArenaCell T)) (s : Slots T) (id : ℕ) → slots_of m cells ≡ s → at s.items id ≡ at (items_of cells) id
  seen_item m cells s id e = ap (λ (s : Slots T). at s.items id) (sym e) ∙ at_padded (unwritten m cells) (items_of cells) id

  pub seen_link : (m : ℕ) (cells : List (ArenaCell T)) (s : Slots T) (id : ℕ) → slots_of m cells ≡ s → at s.links id ≡ at (links_of cells) id
  seen_link m cells s id e = ap (λ (s : Slots T). at s.links id) (sym e) ∙ at_padded (unwritten m cells) (links_of cells) id

  -- as many slots are seen as there are
  pub seen_length : (m : ℕ) (cells : List (ArenaCell T)) (s : Slots T) → slots_of m cells ≡ s → length cells ≤ m → m ≡ length s.items
  seen_length m cells s e w =
      let n : length (padded (unwritten m cells) (items_of cells)) ≡ length (items_of cells) + (m - length cells) = length_padded (unwritten m cells) (items_of cells) in
      let l = length-map cells item_of in
      (omega (arith, n, l, w)) ∙ ap (λ (s : Slots T). length s.items) e

  kept_from : (m n : ℕ) (items : List (Option T)) (links : List (Option ℕ)) (cells : List (ArenaCell T)) (free : Chain ℕ) (ids : List ℕ) →
      length cells ≡ n → items_of cells ≡ items → links_of cells ≡ links → n ≤ m → m ≤ MOST_KEYS → IsFreeList n items links free ids → AreCellsKept m cells free
  kept_from m n items links cells free ids a b c w s f = record { ids = ids; list = rw (a, b, c) f; within = rw a w; small = s }

  slots_from : (m n : ℕ) (items : List (Option T)) (links : List (Option ℕ)) (cells : List (ArenaCell T)) → length cells ≡ n → items_of cells ≡ items → links_of cells ≡ links →
      slots_of m cells ≡ record { items = padded (m - n) items; links = padded (m - n) links }
  slots_from m n items links cells l a b = rw (l, a, b)

  -- a record goes into the first free slot
  pub kept_taken : (m : ℕ) (cells : List (ArenaCell T)) (free new : Chain ℕ) (i id : ℕ) (x c : ArenaCell T) (v : T) → i ≡ id → x ≡ get_or cells i x → item_of c ≡ Some v → link_of c ≡ link_of x →
      (k : AreCellsKept m cells free) → Some id ≡ first_of k.ids → IsChain (λ y. y < length cells) (at (links_of cells)) new (rest_of k.ids) → AreCellsKept m (set cells i c) new
  kept_taken m cells free new i id x c v e r t l k f h =
      kept_from m (length cells) (set (items_of cells) id (Some v)) (links_of cells) (set cells i c) new (rest_of k.ids) (length-set cells i c)
      (column_set item_of cells i id c (Some v) e t) (map_same link_of cells i x c r l) k.within k.small
      (free_taken_first (length cells) (items_of cells) (links_of cells) free new k.ids id v (length-map cells item_of) k.list f h)

  -- the first free slot is one of those that were written
  pub first_in : (m : ℕ) (cells : List (ArenaCell T)) (free : Chain ℕ) (id : ℕ) (k : AreCellsKept m cells free) → Some id ≡ first_of k.ids → (id < length cells) × (at (items_of cells) id ≡ None)
  first_in m cells free id k f = first_free k.ids k.list f
    where
      first_free : (ids : List ℕ) → IsFreeList (length cells) (items_of cells) (links_of cells) free ids → Some id ≡ first_of ids → (id < length cells) × (at (items_of cells) id ≡ None)
      first_free [] f e = absurd cc
      first_free (y ∷ ys) f e =
          let s : y ≡ id = cc in subst (λ (z : ℕ). (z < length cells) × (at (items_of cells) z ≡ None)) s (f.line.held.0, f.bare.0)

  pub first_seen : (m : ℕ) (cells : List (ArenaCell T)) (free : Chain ℕ) (s : Slots T) (id : ℕ) (k : AreCellsKept m cells free) → slots_of m cells ≡ s → Some id ≡ first_of k.ids → IsFree s.items id
  first_seen m cells free s id k e f =
      let here = first_in m cells free id k f in
      let w = here.0 in
      let n = seen_length m cells s e k.within in
      let i = k.within in (omega (arith, w, n, i), seen_item m cells s id e ∙ here.1)

  -- a record goes into the next slot that was never written
  pub kept_fresh : (m : ℕ) (cells cells' : List (ArenaCell T)) (free new : Chain ℕ) (c : ArenaCell T) (v : T) → cells' ≡ cells ++ c ∷ [] → item_of c ≡ Some v → length cells < m →
      (k : AreCellsKept m cells free) → None ≡ first_of k.ids → IsChain (λ y. y < length cells) (at (links_of cells)) new (rest_of k.ids) → AreCellsKept m cells' new
  kept_fresh m cells cells' free new c v e t w k f h =
      kept_from m (length cells + 1) (items_of cells ++ Some v ∷ []) (links_of cells ++ link_of c ∷ []) cells' new []
      (ap length e ∙ length_push cells c) (ap items_of e ∙ (map_push item_of cells c ∙ ap (λ o. items_of cells ++ o ∷ []) t)) (ap links_of e ∙ map_push link_of cells c)
      (omega (arith, w)) k.small
      (free_fresh (length cells) (items_of cells) (links_of cells) (links_of cells ++ link_of c ∷ []) free new k.ids v (length-map cells item_of) k.list f h)

  -- no free slot stays none
  pub kept_none : (m : ℕ) (cells : List (ArenaCell T)) (free new : Chain ℕ) (k : AreCellsKept m cells free) → None ≡ first_of k.ids →
      IsChain (λ y. y < length cells) (at (links_of cells)) new (rest_of k.ids) → AreCellsKept m cells new
  kept_none m cells free new k f h = record { ids = rest_of k.ids; list = still k.ids k.list f h; within = k.within; small = k.small }
    where
      still : (ids : List ℕ) → IsFreeList (length cells) (items_of cells) (links_of cells) free ids → None ≡ first_of ids →
          IsChain (λ y. y < length cells) (at (links_of cells)) new (rest_of ids) → IsFreeList (length cells) (items_of cells) (links_of cells) new (rest_of ids)
      still [] f e h = record { line = h; bare = tt; all = f.all }
      still (y ∷ ys) f e h = absurd cc

  -- no cell was written
  pub kept_bare : (m : ℕ) (cells : List (ArenaCell T)) (free : Chain ℕ) → cells ≡ [] → IsEmpty free → m ≤ MOST_KEYS → AreCellsKept m cells free
  kept_bare m cells free e h s = record {
    ids = [];
    list = record {
      line = empty_chain (λ y. y < length cells) (at (links_of cells)) free h;
      bare = tt;
      all = λ id w n a. let l : length cells ≡ 0 = ap length e in omega (arith, w, l);
    };
    within = let l : length cells ≡ 0 = ap length e in omega (arith, l);
    small = s;
  }

  -- and no slot has a record
  pub bare_slots : (m : ℕ) (cells : List (ArenaCell T)) → cells ≡ [] → AllFree (slots_of m cells).items
  bare_slots m cells e = λ id. at_padded (unwritten m cells) (items_of cells) id ∙ ap (λ (cs : List (ArenaCell T)). at (items_of cs) id) e

  pub slots_with_item : (m : ℕ) (cells : List (ArenaCell T)) (i id : ℕ) (x c : ArenaCell T) (v : Option T) → i ≡ id → x ≡ get_or cells i x → item_of c ≡ v → link_of c ≡ link_of x → id < length cells →
      slots_of m (set cells i c) ≡ with_item (slots_of m cells) id v
  slots_with_item m cells i id x c v e r t l w =
      slots_from m (length cells) (set (items_of cells) id v) (links_of cells) (set cells i c) (length-set cells i c)
      (column_set item_of cells i id c v e t) (map_same link_of cells i x c r l)
      ∙ ap (λ is. record { items = is; links = padded (unwritten m cells) (links_of cells) }) (sym (set_padded (unwritten m cells) (items_of cells) id v (rw (length-map cells item_of) w)))

  -- the slots once the next one that was never written has a record
  pub slots_with_fresh : (m : ℕ) (cells cells' : List (ArenaCell T)) (id : ℕ) (c : ArenaCell T) (v : Option T) → cells' ≡ cells ++ c ∷ [] → item_of c ≡ v → link_of c ≡ None → length cells < m → length cells ≡ id →
      slots_of m cells' ≡ with_item (slots_of m cells) id v
  slots_with_fresh m cells cells' id c v p t l w e =
      let more : unwritten m cells ≡ suc (m - (length cells + 1)) = omega (arith, w) in
      let n : length (items_of cells) ≡ id = length-map cells item_of ∙ e in
      slots_from m (length cells + 1) (items_of cells ++ v ∷ []) (links_of cells ++ None ∷ []) cells' (ap length p ∙ length_push cells c)
      (ap items_of p ∙ (map_push item_of cells c ∙ ap (λ o. items_of cells ++ o ∷ []) t)) (ap links_of p ∙ (map_push link_of cells c ∙ ap (λ o. links_of cells ++ o ∷ []) l))
      ∙ (ap (λ is. record { items = is; links = padded (m - (length cells + 1)) (links_of cells ++ None ∷ []) }) (sym (padded_set (m - (length cells + 1)) (items_of cells) v) ∙ ap (λ k. set (padded (suc (m - (length cells + 1))) (items_of cells)) k v) n)
      ∙ (ap (λ ls. record { items = set (padded (suc (m - (length cells + 1))) (items_of cells)) id v; links = ls }) (sym (padded_push (m - (length cells + 1)) (links_of cells)))
      ∙ ap (λ k. record { items = set (padded k (items_of cells)) id v; links = padded k (links_of cells) }) (sym more)))

  -- a slot that has a record gets another one
  pub kept_changed : (m : ℕ) (cells : List (ArenaCell T)) (free : Chain ℕ) (i id : ℕ) (x c : ArenaCell T) (v : T) → i ≡ id → x ≡ get_or cells i x → item_of c ≡ Some v → link_of c ≡ link_of x → IsTaken (items_of cells) id →
      AreCellsKept m cells free → AreCellsKept m (set cells i c) free
  kept_changed m cells free i id x c v e r t l h k =
      kept_from m (length cells) (set (items_of cells) id (Some v)) (links_of cells) (set cells i c) free k.ids (length-set cells i c)
      (column_set item_of cells i id c (Some v) e t) (map_same link_of cells i x c r l) k.within k.small
      (free_changed (length cells) (items_of cells) (links_of cells) free k.ids id v (taken_below (items_of cells) id h) h k.list)

  links_set : (cells : List (ArenaCell T)) (i id : ℕ) (c : ArenaCell T) (v : Option ℕ) → i ≡ id → link_of c ≡ v → links_of (set cells i c) ≡ set (links_of cells) id v
  links_set cells i id c v e l = column_set link_of cells i id c v e l

  -- the link of a slot that has a record is set
  pub kept_linked : (m : ℕ) (cells : List (ArenaCell T)) (free : Chain ℕ) (i id : ℕ) (x c : ArenaCell T) → i ≡ id → x ≡ get_or cells i x → item_of c ≡ item_of x → IsTaken (items_of cells) id → AreCellsKept m cells free →
      AreCellsKept m (set cells i c) free
  kept_linked m cells free i id x c e r t h k =
      kept_from m (length cells) (items_of cells) (set (links_of cells) id (link_of c)) (set cells i c) free k.ids (length-set cells i c)
      (map_same item_of cells i x c r t) (links_set cells i id c (link_of c) e refl) k.within k.small
      (free_linked (length cells) (items_of cells) (links_of cells) (set (links_of cells) id (link_of c)) free k.ids id h (λ y n. at_other (links_of cells) id y (link_of c) n) k.list)

  -- the slots once a link is set
  pub slots_with_link : (m : ℕ) (cells : List (ArenaCell T)) (i id : ℕ) (x c : ArenaCell T) (v : Option ℕ) → i ≡ id → x ≡ get_or cells i x → item_of c ≡ item_of x → link_of c ≡ v → id < length cells →
      slots_of m (set cells i c) ≡ record (slots_of m cells) { links = set (slots_of m cells).links id v }
  slots_with_link m cells i id x c v e r t l w =
      slots_from m (length cells) (items_of cells) (set (links_of cells) id v) (set cells i c) (length-set cells i c) (map_same item_of cells i x c r t) (links_set cells i id c v e l)
      ∙ ap (λ ls. record { items = padded (unwritten m cells) (items_of cells); links = ls }) (sym (set_padded (unwritten m cells) (links_of cells) id v (rw (length-map cells link_of) w)))

  pub link_here : (m : ℕ) (cells : List (ArenaCell T)) (i id : ℕ) (c : ArenaCell T) → i ≡ id → id < length cells → at (slots_of m (set cells i c)).links id ≡ link_of c
  link_here m cells i id c e w = at_padded (unwritten m (set cells i c)) (links_of (set cells i c)) id ∙ column_here link_of cells i id c e w

  -- as many cells, if the records are the same
  columns : (a b : List (ArenaCell T)) → items_of a ≡ items_of b → length a ≡ length b
  columns a b e = sym (length-map a item_of) ∙ (ap length e ∙ length-map b item_of)

  -- a slot has no record any more, and is last in the list
  pub kept_given : (m : ℕ) (cells cells' : List (ArenaCell T)) (free new : Chain ℕ) (i id : ℕ) (c : ArenaCell T) → i ≡ id → item_of c ≡ None → IsTaken (items_of cells) id → items_of cells' ≡ items_of (set cells i c) →
      (k : AreCellsKept m cells free) → Avoids id k.ids → IsChain (λ y. y < length cells') (at (links_of cells')) new (k.ids ++ id ∷ []) → AreCellsKept m cells' new
  kept_given m cells cells' free new i id c e t w s k a h =
      let n : length cells' ≡ length cells = columns cells' (set cells i c) s ∙ length-set cells i c in
      let h' : IsChain (λ y. y < length cells) (at (links_of cells')) new (k.ids ++ id ∷ []) = subst (λ (m : ℕ). IsChain (λ y. y < m) (at (links_of cells')) new (k.ids ++ id ∷ [])) n h in
      kept_from m (length cells) (set (items_of cells) id None) (links_of cells') cells' new (k.ids ++ id ∷ []) n
      (s ∙ column_set item_of cells i id c None e t) refl k.within k.small
      (free_given (length cells) (items_of cells) (links_of cells) (links_of cells') free new k.ids id (taken_below (items_of cells) id w) k.list a h')

  -- what is seen of the records once a slot has none any more
  pub seen_given : (m : ℕ) (cells cells' : List (ArenaCell T)) (s : Slots T) (i id : ℕ) (c : ArenaCell T) → slots_of m cells ≡ s → i ≡ id → item_of c ≡ None → id < length cells → items_of cells' ≡ items_of (set cells i c) →
      (slots_of m cells').items ≡ set s.items id None
  seen_given m cells cells' s i id c e j t w k =
      let n : length cells' ≡ length cells = columns cells' (set cells i c) k ∙ length-set cells i c in
      ap (λ n. padded (m - n) (items_of cells')) n ∙ (ap (padded (unwritten m cells)) (k ∙ column_set item_of cells i id c None j t)
      ∙ (sym (set_padded (unwritten m cells) (items_of cells) id None (rw (length-map cells item_of) w)) ∙ ap (λ (s : Slots T). set s.items id None) e))

  -- each slot has a record if and only if all were written and the list has no first
  pub kept_full : (m : ℕ) (cells : List (ArenaCell T)) (free : Chain ℕ) (k : AreCellsKept m cells free) → length cells ≡ m → is_full (slots_of m cells).items ≡ is_none (first_of k.ids)
  kept_full m cells free k e =
      let none : unwritten m cells ≡ 0 = omega (arith, e) in
      ap (λ n. is_full (padded n (items_of cells))) none ∙ (ap is_full (padded_none (items_of cells)) ∙ full_is (length cells) (items_of cells) (links_of cells) free k.ids (length-map cells item_of) k.list)

  pub kept_not_full : (m : ℕ) (cells : List (ArenaCell T)) → length cells < m → is_full (slots_of m cells).items ≡ false
  kept_not_full m cells w =
      let more : unwritten m cells ≡ suc (m - (length cells + 1)) = omega (arith, w) in
      ap (λ n. is_full (padded n (items_of cells))) more ∙ padded_not_full (m - (length cells + 1)) (items_of cells)

  -- a chain stays if no link changes
  pub line_set : (cells : List (ArenaCell T)) (free : Chain ℕ) (ids : List ℕ) (i : ℕ) (x c : ArenaCell T) → x ≡ get_or cells i x → link_of c ≡ link_of x →
      IsChain (λ y. y < length cells) (at (links_of cells)) free ids → IsChain (λ y. y < length (set cells i c)) (at (links_of (set cells i c))) free ids
  line_set cells free ids i x c r l h =
      let f : links_of (set cells i c) ≡ links_of cells = map_same link_of cells i x c r l in
      let n : length (set cells i c) ≡ length cells = length-set cells i c in
      rw (n, f) h

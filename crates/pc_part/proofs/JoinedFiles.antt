-- A merge of ascending triples is the join of their maps; when it conflicts, and which points it has.
use Rattle.std.proofs.Common.{◌≡◌, ℕ, Bool, true, false, cond, ◌||◌, not, List, [], ◌∷◌, map, length, Option, Some, None, Result, Ok, Err, ◌<◌, ◌≤◌, lt-ltb, refl, sym, ap, subst, ◌∙◌, arith}
use Rattle.std.specs.Prelude.{IsTrue, nat_lt, if◌then◌else◌, ⊤}
use Rattle.pc_types.specs.declared.Refusal.{Refusal}
use Rattle.pc_types.specs.declared.Refusal.TheVariants.{Conflict, Full}
use Rattle.std.specs.List.{list_any}
use Rattle.std.proofs.lemmas.List.Elements.{All-cons, All-nil, All-tail}
use Rattle.std.specs.Ordering.{is_eq}
use Rattle.std.proofs.lemmas.Bool.Decides.{nat_tests}
use Rattle.std.specs.Cmp.{tied_itself}
use Rattle.std.specs.declared.cmp.Ordering.{Ordering}
use Rattle.std.specs.declared.cmp.Ordering.TheVariants.{Less, Equal, Greater}
use Rattle.std.specs.FinMap.{find, is_sorted}
use Rattle.std.specs.FinMap.Entries.{below_all}
use Rattle.pc_types.specs.declared.Triple.{Triple}
use Rattle.pc_model.specs.Maps as map_of
use Rattle.pc_model.specs.Sets as set
use Rattle.pc_model.specs.Sets.{Set, number_order}
use Rattle.pc_model.specs.Database.{key_cmp, key_order, same_bytes, KeysRise}
use Rattle.pc_model.specs.Points.{AtPoint, newer, later, joined}
use Rattle.pc_model.specs.Files.{differs, conflict}
use Rattle.pc_model.specs.TripleLists.{map_entries, triples_of}
use Rattle.pc_model.specs.Replies.{is_empty}
use Rattle.pc_model.proofs.MapLaws.{get-from_list, same_map}
use Rattle.pc_model.proofs.PairMapLaws as pair_maps
use Rattle.pc_model.proofs.JoinLaws.{get-joined, one_key}
use Rattle.pc_part.specs.Parts.{AreCovered}
use Rattle.itertools.specs.List.{by_ordering}
use Rattle.itertools.specs.declared.either_or_both.EitherOrBoth.TheVariants.{Both, Left, Right}
use Rattle.pc_model.specs.Merges.{gathered}
use Rattle.pc_part.specs.Joins.{clash_at, first_cause, triples_causes}
use Rattle.pc_model.proofs.MergeLaws.{Merges, merges, merged_items}
use Rattle.pc_model.proofs.RisingLaws.{both, none_below, Below, Rise}
use Rattle.pc_model.proofs.MergeItemLaws.{items}
use Rattle.pc_part.proofs.JoinedLists.{joins, clashes}

module _ (a b : List Triple) (rise_a : KeysRise (map_entries a)) (rise_b : KeysRise (map_entries b)) where
  the_join : Merges later (map_entries a) (map_entries b) (joins a b)
  the_join = merges later refl (map_entries a) (map_entries b) rise_a rise_b

  pub join_rises : KeysRise (joins a b)
  join_rises = the_join.rise

  join_map : map_of.from_list {o = key_order} (joins a b) ≡ joined (triples_of a) (triples_of b)
  join_map = same_map _ _ (λ q. get-from_list key_order (joins a b) q ∙ the_join.finds q
      ∙ ap (λ x. later x (find key_cmp q (map_entries b))) (sym (get-from_list key_order (map_entries a) q))
      ∙ ap (later (map_of.get (triples_of a) q)) (sym (get-from_list key_order (map_entries b) q))
      ∙ sym (get-joined (triples_of a) (triples_of b) q))

  -- a list of the merged entries is the join
  pub joined_list : (out : List Triple) → map_entries out ≡ joins a b → triples_of out ≡ joined (triples_of a) (triples_of b)
  joined_list out is = ap (map_of.from_list {o = key_order}) is ∙ join_map

  pub join_len : length (joins a b) ≡ map_of.len (joined (triples_of a) (triples_of b))
  join_len = ap length (sym (pair_maps.entries_of (joins a b) join_rises)) ∙ ap map_of.len join_map

-- a key is at its own place
find_first : {X : Type 0} (e : List ℕ × X) (es : List (List ℕ × X)) → find key_cmp e.0 (e ∷ es) ≡ Some e.1
find_first e es = ap (λ o. cond (is_eq o) (Some e.1) (find key_cmp e.0 es)) (tied_itself key_order.total e.0)

-- nothing clashes, or something does
abbrev here : ⊤
here = tt

or_true : (t : Bool) → (t || true) ≡ true
or_true true = refl
or_true false = refl

no_clash : (x : AtPoint) (y : Option AtPoint) → clash_at (Some x) y ≡ None → differs x y ≡ false
no_clash x y none = by (differs x y) none
  where
    by : (t : Bool) → cond t (Some here) None ≡ None → t ≡ false
    by true e = cc
    by false e = refl

some_clash : (x : AtPoint) (y : Option AtPoint) → clash_at (Some x) y ≡ Some tt → differs x y ≡ true
some_clash x y there = by (differs x y) there
  where
    by : (t : Bool) → cond t (Some here) None ≡ Some here → t ≡ true
    by true e = refl
    by false e = cc

module _ (there : List ℕ → Option AtPoint) where
  pub none_differs : (es : List (List ℕ × AtPoint)) → Rise es → ((q : List ℕ) → clash_at (find key_cmp q es) (there q) ≡ None) → list_any (λ e. differs e.1 (there e.0)) es ≡ false
  none_differs [] rise none = refl
  none_differs (e ∷ es) rise none =
      let parts = both (below_all key_cmp e.0 es) (is_sorted key_cmp es) rise in
      ap (λ t. t || list_any (λ e. differs e.1 (there e.0)) es) (no_clash e.1 (there e.0) (ap (λ x. clash_at x (there e.0)) (sym (find_first e es)) ∙ none e.0))
      ∙ none_differs es parts.1 (λ q. by q (same_bytes q e.0) refl parts.0 (none q))
    where
      by : (q : List ℕ) (t : Bool) → same_bytes q e.0 ≡ t → Below e.0 es → clash_at (cond t (Some e.1) (find key_cmp q es)) (there q) ≡ None → clash_at (find key_cmp q es) (there q) ≡ None
      by q true same below h = ap (λ x. clash_at x (there q)) (ap (λ k. find key_cmp k es) (one_key q e.0 same) ∙ none_below e.0 es below)
      by q false same below h = h

  pub some_differs : (es : List (List ℕ × AtPoint)) (q : List ℕ) → clash_at (find key_cmp q es) (there q) ≡ Some tt → list_any (λ e. differs e.1 (there e.0)) es ≡ true
  some_differs [] q found = cc
  some_differs (e ∷ es) q found = by (same_bytes q e.0) refl found (λ h. some_differs es q h)
    where
      by : (t : Bool) → same_bytes q e.0 ≡ t → clash_at (cond t (Some e.1) (find key_cmp q es)) (there q) ≡ Some tt → (clash_at (find key_cmp q es) (there q) ≡ Some tt → list_any (λ e. differs e.1 (there e.0)) es ≡ true) → (differs e.1 (there e.0) || list_any (λ e. differs e.1 (there e.0)) es) ≡ true
      by true same h again = ap (λ t. t || list_any (λ e. differs e.1 (there e.0)) es) (ap (λ k. differs e.1 (there k)) (sym (one_key q e.0 same)) ∙ some_clash e.1 (there q) h)
      by false same h again = ap (λ t. differs e.1 (there e.0) || t) (again h) ∙ or_true (differs e.1 (there e.0))

-- two files conflict if and only if something clashes
pub conflict_is : (a b : List Triple) → KeysRise (map_entries a) → KeysRise (map_entries b) → conflict (triples_of a) (triples_of b) ≡ not (is_empty (clashes a b))
conflict_is a b rise_a rise_b =
    ap (list_any (λ e. differs e.1 (map_of.get (triples_of b) e.0))) (pair_maps.entries_of (map_entries a) rise_a) ∙ by (clashes a b) (merges clash_at refl (map_entries a) (map_entries b) rise_a rise_b)
  where
    by : (m : List (List ℕ × ⊤)) → Merges clash_at (map_entries a) (map_entries b) m → list_any (λ e. differs e.1 (map_of.get (triples_of b) e.0)) (map_entries a) ≡ not (is_empty m)
    by [] h = none_differs (map_of.get (triples_of b)) (map_entries a) rise_a (λ q. ap (clash_at (find key_cmp q (map_entries a))) (get-from_list key_order (map_entries b) q) ∙ sym (h.finds q))
    by (e ∷ m) h = some_differs (map_of.get (triples_of b)) (map_entries a) e.0 (ap (clash_at (find key_cmp e.0 (map_entries a))) (get-from_list key_order (map_entries b) e.0) ∙ sym (h.finds e.0) ∙ find_first e m)

-- each entry is of one of the points
abbrev Covers : Set number_order → List (List ℕ × AtPoint) → Type 0
Covers points [] = Unit {0}
Covers points (e ∷ es) = IsTrue (set.contains points e.1.point) × Covers points es

covered_entries : (points : Set number_order) (ts : List Triple) → AreCovered points ts → Covers points (map_entries ts)
covered_entries points [] covered = tt
covered_entries points (t ∷ ts) covered = (covered 0 t (omega arith), covered_entries points ts (All-tail (λ t. IsTrue (set.contains points t.point)) t ts covered))

covered_triples : (points : Set number_order) (ts : List Triple) → Covers points (map_entries ts) → AreCovered points ts
covered_triples points [] covered = All-nil (λ t. IsTrue (set.contains points t.point))
covered_triples points (t ∷ ts) covered = All-cons (λ t. IsTrue (set.contains points t.point)) t ts covered.0 (covered_triples points ts covered.1)

abbrev CoversTriples : Set number_order → List Triple → Type 0
CoversTriples points ts = Covers points (map_entries ts)

module _ (points : Set number_order) where
  newer_covered : (x y : AtPoint) → IsTrue (set.contains points x.point) → IsTrue (set.contains points y.point) → IsTrue (set.contains points (newer (Some x) y).point)
  newer_covered x y cx cy = by (nat_lt x.point y.point)
    where
      by : (t : Bool) → IsTrue (set.contains points (cond t y x).point)
      by true = cy
      by false = cx

  only_first : (xs : List (List ℕ × AtPoint)) → Covers points xs → Covers points (gathered later (map (λ x. Left x) xs))
  only_first [] c = c
  only_first (x ∷ xs) c = (c.0, only_first xs c.1)

  covered_with : (x : List ℕ × AtPoint) (xs : List (List ℕ × AtPoint)) (again : (ys : List (List ℕ × AtPoint)) → Covers points xs → Covers points ys → Covers points (gathered later (items xs ys))) (ys : List (List ℕ × AtPoint))
      → Covers points (x ∷ xs) → Covers points ys → Covers points (gathered later (items (x ∷ xs) ys))
  covered_with x xs again [] ca cb = (ca.0, only_first xs ca.1)
  covered_with x xs again (y ∷ ys) ca cb = by (key_cmp x.0 y.0) (covered_with x xs again ys ca cb.1)
    where
      by : (o : Ordering) → Covers points (gathered later (items (x ∷ xs) ys)) → Covers points (gathered later (by_ordering o (Left x ∷ items xs (y ∷ ys)) (Both x y ∷ items xs ys) (Right y ∷ items (x ∷ xs) ys)))
      by Less others = (ca.0, again (y ∷ ys) ca.1 cb)
      by Equal others = (newer_covered x.1 y.1 ca.0 cb.0, again ys ca.1 cb.1)
      by Greater others = (cb.0, others)

  items_covered : (xs ys : List (List ℕ × AtPoint)) → Covers points xs → Covers points ys → Covers points (gathered later (items xs ys))
  items_covered [] [] ca cb = cb
  items_covered [] (y ∷ ys) ca cb = (cb.0, items_covered [] ys ca cb.1)
  items_covered (x ∷ xs) ys ca cb = covered_with x xs (λ ys. items_covered xs ys) ys ca cb

  joins_covered : (a b : List Triple) → CoversTriples points a → CoversTriples points b → Covers points (joins a b)
  joins_covered a b ca cb = subst (Covers points) (merged_items later (map_entries a) (map_entries b)) (items_covered (map_entries a) (map_entries b) ca cb)

  -- the join of covered triples is covered
  pub joined_covered : (a b out : List Triple) → AreCovered points a → AreCovered points b → map_entries out ≡ joins a b → AreCovered points out
  joined_covered a b out ca cb is = covered_triples points out (subst (Covers points) (sym is) (joins_covered a b (covered_entries points a ca) (covered_entries points b cb)))

-- Why triples can't be joined, by what was counted.
abbrev counted : Bool → ℕ → Result ℕ Refusal
counted fine n = if fine then Ok n else Err Conflict

abbrev refusing : Refusal → Result ℕ Refusal
refusing e = Err e

abbrev giving : ℕ → Result ℕ Refusal
giving n = Ok n

module _ (a b : List Triple) (rise_a : KeysRise (map_entries a)) (rise_b : KeysRise (map_entries b)) where
  due : Option Refusal
  due = first_cause (triples_causes (triples_of a) (triples_of b))

  due_is : (fine : Bool) → is_empty (clashes a b) ≡ fine → due ≡ first_cause ((not fine, Conflict) ∷ (nat_lt 4294967295 (length (joins a b)), Full) ∷ [])
  unfolding due
  due_is fine is = rw (conflict_is a b rise_a rise_b, is, ← join_len a b rise_a rise_b) refl

  -- the count found a conflict
  pub due_conflict : (r : Result ℕ Refusal) (e : Refusal) → r ≡ counted (is_empty (clashes a b)) (length (joins a b)) → r ≡ refusing e → first_cause (triples_causes (triples_of a) (triples_of b)) ≡ Some e
  unfolding due
  due_conflict r e is err = by (is_empty (clashes a b)) refl (sym err ∙ is)
    where
      by : (fine : Bool) → is_empty (clashes a b) ≡ fine → refusing e ≡ counted fine (length (joins a b)) → due ≡ Some e
      by true p h = cc
      by false p h = let same : e ≡ Conflict = cc in due_is false p ∙ ap (λ c. Some c) (sym same)

  -- the count is the join's length, and nothing conflicts
  due_by_len : (r : Result ℕ Refusal) (n : ℕ) → r ≡ counted (is_empty (clashes a b)) (length (joins a b)) → r ≡ giving n → (n ≡ length (joins a b)) × (first_cause (triples_causes (triples_of a) (triples_of b)) ≡ (if nat_lt 4294967295 n then Some Full else None))
  unfolding due
  due_by_len r n is ok = by (is_empty (clashes a b)) refl (sym ok ∙ is)
    where
      by : (fine : Bool) → is_empty (clashes a b) ≡ fine → giving n ≡ counted fine (length (joins a b)) → (n ≡ length (joins a b)) × (due ≡ (if nat_lt 4294967295 n then Some Full else None))
      by true p h = let same : n ≡ length (joins a b) = cc in (same, due_is true p ∙ ap (λ k. if nat_lt 4294967295 k then Some Full else None) (sym same))
      by false p h = cc

  pub due_full : (r : Result ℕ Refusal) (n : ℕ) → r ≡ counted (is_empty (clashes a b)) (length (joins a b)) → r ≡ giving n → 4294967295 < n → first_cause (triples_causes (triples_of a) (triples_of b)) ≡ Some Full
  due_full r n is ok above = (due_by_len r n is ok).1 ∙ ap (λ t. if t then Some Full else None) (lt-ltb 4294967295 n above)

  pub due_nothing : (r : Result ℕ Refusal) (n : ℕ) → r ≡ counted (is_empty (clashes a b)) (length (joins a b)) → r ≡ giving n → n ≤ 4294967295 → first_cause (triples_causes (triples_of a) (triples_of b)) ≡ None
  due_nothing r n is ok within = (due_by_len r n is ok).1 ∙ ap (λ t. if t then Some Full else None) (not_above n within)
    where
      not_above : (n : ℕ) → n ≤ 4294967295 → nat_lt 4294967295 n ≡ false
      not_above n h = grind (arith, nat_tests)

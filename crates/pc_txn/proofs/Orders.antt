-- Places in the ascending order of their keys.
use Rattle.std.proofs.Common.{◌≡◌, ℕ, suc, ◌+◌, ◌<◌, ◌≤◌, List, [], ◌∷◌, ◌++◌, length, map, take, drop, get_or, Option, Some, None, option_map, Result, Ok, Err, IfOk, IfErr, refl, sym, ap, subst, ◌∙◌, arith, cond, Bool, true, false, ◌-◌, ltb, ltb-true, ltb-false}
use Rattle.std.specs.Prelude.{insert, All}
use Rattle.std.proofs.lemmas.List.Edits.{get_or-insert_at, get_or-insert_below, get_or-insert_above}
use Rattle.std.specs.List.Sorted.{IsBinarySearchResult, IsSearchInRange}
use Rattle.std.specs.Ordering.{is_eq, ordering_reverse, ordering_index}
use Rattle.std.specs.declared.cmp.Ordering.{Ordering}
use Rattle.std.specs.declared.cmp.Ordering.TheVariants.{Less, Equal, Greater}
use Rattle.std.specs.FinMap.{find, put}
use Rattle.std.specs.FinMap.Entries.{find-put}
use Rattle.std.proofs.Math.ListN.{get_or-append}
use Rattle.std.proofs.Math.Seq.{get_or-append_seam}
use Rattle.std.proofs.lemmas.List.{get_or-map, length-map, map-append, take-map, drop-map}
use Rattle.std.proofs.lemmas.Grind.{common_steps}
use Rattle.pc_model.specs.Database.{key_cmp, key_order, same_bytes}
use Rattle.pc_model.specs.Places.{IsAt, IsGap}
use Rattle.pc_model.proofs.JoinLaws.{one_key}
use Rattle.pc_model.proofs.PlaceLaws.{still_rise}
use Rattle.pc_model.proofs.SearchLaws.{against, found_at, found_gap}
use Rattle.pc_txn.specs.Orders.{key_position, key_at_position, entries, IsOrder}

-- what a search among values of a function answers is what one among the arguments does
searched : {A B : Type 0} (f : A → B) (a : A) (how : B → Ordering) (xs : List A) (r : Result ℕ ℕ) → IsSearchInRange r (length xs) → IsBinarySearchResult (λ x. how (f x)) xs r → IsBinarySearchResult how (map f xs) r
searched f a how xs (Ok i) bound at = λ d. ap how (get_or-map f xs i a d bound) ∙ at a
searched f a how xs (Err i) bound parted = λ rises.
    let parts = parted (λ j k d le lt.
    let far : k < length (map f xs) = rw length-map lt in
    let near : j < length xs = omega (arith, le, lt) in
    let falls : ordering_index (how (get_or (map f xs) j (f d))) ≤ ordering_index (how (get_or (map f xs) k (f d))) = rises j k (f d) le far in
    subst (λ b. ordering_index (how b) ≤ ordering_index (how (f (get_or xs k d)))) (get_or-map f xs j d (f d) near) (subst (λ b. ordering_index (how (get_or (map f xs) j (f d))) ≤ ordering_index (how b)) (get_or-map f xs k d (f d) lt) falls)) in (
      λ k d low high. ap how (get_or-map f xs k a d (omega (arith, high, bound))) ∙ parts.0 k a low high,
      λ k d low high. let within : k < length xs = rw length-map at high in ap how (get_or-map f xs k a d within) ∙ parts.1 k a low within,
    )

module _ (keys : List (List ℕ)) (order : List ℕ) (key : List ℕ) (r : Result ℕ ℕ) (sorted : IsOrder keys order) (bound : IsSearchInRange r (length order)) (answered : IsBinarySearchResult (λ place. key_cmp (key_at_position keys place) key) order r) where
  in_entries : IsSearchInRange r (length (entries keys order))
  in_entries = rw length-map bound

  among : IsBinarySearchResult (against key) (entries keys order) r
  among = searched (λ place. (key_at_position keys place, place)) 0 (against key) order r bound answered

  pub key_at_place : IfOk r (IsAt (entries keys order) key)
  key_at_place = found_at (entries keys order) key r sorted.rise in_entries among

  pub key_at_gap : IfErr r (IsGap (entries keys order) key)
  key_at_gap = found_gap (entries keys order) key r sorted.rise in_entries among

-- the order of two keys does not matter to whether they are the same
same_turned : (k l : List ℕ) → same_bytes k l ≡ same_bytes l k
same_turned k l = ap is_eq (key_order.total.antisymm k l) ∙ reversed (key_cmp l k)
  where
    reversed : (o : Ordering) → is_eq (ordering_reverse o) ≡ is_eq o
    reversed Less = refl
    reversed Equal = refl
    reversed Greater = refl

-- where a key is once a new one is there
place_added : (keys : List (List ℕ)) (k q : List ℕ) → key_position keys k ≡ None → key_position (keys ++ k ∷ []) q ≡ cond (same_bytes k q) (Some (length keys)) (key_position keys q)
place_added [] k q none = refl
place_added (x ∷ xs) k q none = by_first (same_bytes x k) (key_position xs k) refl none (place_added xs k q)
  where
    grown : (b : Bool) (o : Option ℕ) → option_map suc (cond b (Some (length xs)) o) ≡ cond b (Some (suc (length xs))) (option_map suc o)
    grown true o = refl
    grown false o = refl

    apart : (a b : Bool) → same_bytes x q ≡ a → same_bytes k q ≡ b → same_bytes x k ≡ false → cond a (Some 0) (cond b (Some (suc (length xs))) (option_map suc (key_position xs q))) ≡ cond b (Some (suc (length xs))) (cond a (Some 0) (option_map suc (key_position xs q)))
    apart true true e f not = let both : true ≡ false = sym e ∙ ap (same_bytes x) (sym (one_key k q f)) ∙ not in absurd cc
    apart true false e f not = refl
    apart false b e f not = refl

    by_first : (b : Bool) (o : Option ℕ) → same_bytes x k ≡ b → cond b (Some 0) (option_map suc o) ≡ None → (o ≡ None → key_position (xs ++ k ∷ []) q ≡ cond (same_bytes k q) (Some (length xs)) (key_position xs q)) →
        cond (same_bytes x q) (Some 0) (option_map suc (key_position (xs ++ k ∷ []) q)) ≡ cond (same_bytes k q) (Some (suc (length xs))) (cond (same_bytes x q) (Some 0) (option_map suc (key_position xs q)))
    by_first true o e none later = absurd cc
    by_first false None e none later = ap (λ o. cond (same_bytes x q) (Some 0) (option_map suc o)) (later refl) ∙ ap (cond (same_bytes x q) (Some 0)) (grown (same_bytes k q) (key_position xs q)) ∙ apart (same_bytes x q) (same_bytes k q) refl refl e
    by_first false (Some i) e none later = absurd cc

-- places have the keys that they had, once one more is there
same_entries : (keys : List (List ℕ)) (key : List ℕ) (order : List ℕ) → All (λ place. place < length keys) order → entries (keys ++ key ∷ []) order ≡ entries keys order
same_entries keys key [] within = refl
same_entries keys key (p ∷ ps) within =
    let lt : p < length keys = within 0 p (omega arith) in
    let head : key_at_position (keys ++ key ∷ []) p ≡ key_at_position keys p = get_or-append keys (key ∷ []) [] p lt in
    λ i. (head i, p) ∷ same_entries keys key ps (λ k d below. within (suc k) d (omega (arith, below))) i

module _ (keys : List (List ℕ)) (order : List ℕ) (key : List ℕ) (at : ℕ) (sorted : IsOrder keys order) (gap : IsGap (entries keys order) key at) where
  pub nowhere : key_position keys key ≡ None
  nowhere = sym (sorted.finds key) ∙ gap.finds

  put_in : entries (keys ++ key ∷ []) (insert order at (length keys)) ≡ put key_cmp key (length keys) (entries keys order)
  put_in =
      let keyed : ℕ → List ℕ × ℕ = λ place. (key_at_position (keys ++ key ∷ []) place, place) in
      let new : keyed (length keys) ≡ (key, length keys) = ap (λ k. (k, length keys)) (get_or-append_seam keys key [] []) in
      map-append keyed (take at order) (length keys ∷ drop at order)
      ∙ ap (λ front. front ++ keyed (length keys) ∷ map keyed (drop at order)) (sym (take-map keyed at order))
      ∙ ap (λ rest. take at (map keyed order) ++ keyed (length keys) ∷ rest) (sym (drop-map keyed at order))
      ∙ ap (λ es. insert es at (keyed (length keys))) (same_entries keys key order sorted.within)
      ∙ ap (insert (entries keys order) at) new ∙ sym (gap.puts (length keys))

  all_within : All (λ place. place < length (keys ++ key ∷ [])) (insert order at (length keys))
  all_within k d lt = by_side (ltb k at) (ltb at k) refl refl
    where
      grown : length (keys ++ key ∷ []) ≡ length keys + 1
      grown = grind (arith, common_steps)

      in_range : at ≤ length order
      in_range = rw length-map at gap.in_range

      by_side : (a b : Bool) → ltb k at ≡ a → ltb at k ≡ b → get_or (insert order at (length keys)) k d < length (keys ++ key ∷ [])
      by_side true b e f =
          let low : k < at = ltb-true k at e in
          omega (arith, grown, get_or-insert_below order at (length keys) d k low in_range, sorted.within k d (omega (arith, low, in_range)))
      by_side false true e f =
          let high : at < k = ltb-true at k f in
          let count : length (insert order at (length keys)) ≡ length order + 1 = grind (arith, common_steps, in_range) in
          let is : k ≡ (k - 1) + 1 = omega (arith, high) in
          rw is (omega (arith, grown, get_or-insert_above order at (length keys) d (k - 1) (omega (arith, high)) in_range, sorted.within (k - 1) d (omega (arith, lt, count, high))))
      by_side false false e f =
          let is : k ≡ at = omega (arith, ltb-false k at e, ltb-false at k f) in
          rw is (omega (arith, grown, get_or-insert_at order at (length keys) d in_range))

  -- a new key after the others, its place put in where it goes
  pub order_added : IsOrder (keys ++ key ∷ []) (insert order at (length keys))
  order_added = record {
    within = all_within;
    rise = still_rise (entries keys order) (entries (keys ++ key ∷ []) (insert order at (length keys))) key (length keys) sorted.rise put_in;
    finds = λ q. ap (find key_cmp q) put_in ∙ find-put key_cmp key_order.total q key (length keys) (entries keys order) ∙ ap (λ b. cond b (Some (length keys)) (find key_cmp q (entries keys order))) (same_turned q key) ∙ ap (cond (same_bytes key q) (Some (length keys))) (sorted.finds q) ∙ sym (place_added keys key q nowhere);
  }

-- the place in the order is the key's
pub found_place : (keys : List (List ℕ)) (order : List ℕ) (key : List ℕ) (at : ℕ) → IsOrder keys order → IsAt (entries keys order) key at → key_position keys key ≡ Some (get_or order at 0)
found_place keys order key at sorted is =
    sym (sorted.finds key) ∙ is.finds ([], 0) ∙ ap (λ (e : List ℕ × ℕ). Some e.1) (get_or-map (λ p. (key_at_position keys p, p)) order at 0 ([], 0) (rw length-map at is.in_range))

-- what is inserted at the end is after all
pub insert_last : (xs : List ℕ) (n y : ℕ) → n ≡ length xs → insert xs n y ≡ xs ++ y ∷ []
insert_last xs n y is = rw is (at_end xs)
  where
    at_end : (xs : List ℕ) → insert xs (length xs) y ≡ xs ++ y ∷ []
    at_end [] = refl
    at_end (x ∷ xs) = ap (λ ys. x ∷ ys) (at_end xs)

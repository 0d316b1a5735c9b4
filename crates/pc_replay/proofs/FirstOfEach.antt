-- Trees of keys as maps, whatever the keys have.
use Rattle.std.proofs.Common.{◌≡◌, ℕ, ◌+◌, ◌-◌, ◌<◌, ◌≤◌, List, ◌∷◌, length, drop, get_or, Some, cond, sym, ap, ◌∙◌, arith}
use Rattle.std.specs.Prelude.{Result, Ok, Err, IfOk}
use Rattle.std.specs.BTreeMap as tree
use Rattle.std.specs.BTreeMap.{BTreeMap, Updates}
use Rattle.std.proofs.lemmas.Cmp.{eq_by_cmp_equiv}
use Rattle.std.proofs.lemmas.List.{drop_all}
use Rattle.pc_model.specs.Maps.{empty, insert, from_list}
use Rattle.pc_model.specs.Database.{key_cmp, key_order, same_bytes}
use Rattle.pc_model.proofs.MapLaws.{get-insert, get-from_list, same_map}
use Rattle.pc_model.proofs.PairMapLaws.{entries_of}
use Rattle.pc_model.proofs.PlaceLaws.{rest_at}
use Rattle.pc_model.proofs.KeyTreeLaws.{find-lookup, sorted_is}

module _ {X : Type 0} where
  -- an entry that is set in a tree is one in its map
  pub set-tree : (old new : BTreeMap (List ℕ) X) (key : List ℕ) (x : X) → Updates key_cmp old new key (Some x) → from_list {o = key_order} new.entries ≡ insert (from_list old.entries) key x
  set-tree old new key x updates = same_map _ _ (λ q.
      get-from_list key_order new.entries q ∙ find-lookup new.entries q ∙ updates.0 q ∙ ap (λ b. cond b (Some x) (tree.get key_cmp old q)) ((eq_by_cmp_equiv key_order.total).symm key q)
      ∙ ap (cond (same_bytes q key) (Some x)) (sym (get-from_list key_order old.entries q ∙ find-lookup old.entries q)) ∙ sym (get-insert (from_list old.entries) key x q))

  -- no entry, of none of the list
  pub first_none : (entries : List (List ℕ × X)) → empty ≡ from_list {o = key_order} (drop (length entries - 0) entries)
  first_none entries = ap (from_list {o = key_order}) (sym (ap (λ j. drop j entries) (omega arith) ∙ drop_all (length entries) entries (omega arith)))

  -- one more of the list, from the last to the first
  pub first_next : (entries : List (List ℕ × X)) (old new : BTreeMap (List ℕ) X) (n : ℕ) (e : List ℕ × X) → n < length entries → e ≡ get_or entries (length entries - 1 - n) e →
      from_list {o = key_order} old.entries ≡ from_list (drop (length entries - n) entries) → Updates key_cmp old new e.0 (Some e.1) → from_list {o = key_order} new.entries ≡ from_list (drop (length entries - (n + 1)) entries)
  first_next entries old new n e lt is so_far updates =
      let i = length entries - 1 - n in
      let here : drop (length entries - (n + 1)) entries ≡ e ∷ drop (length entries - n) entries =
      ap (λ j. drop j entries) (omega (arith, lt)) ∙ rest_at entries i e (omega (arith, lt)) is ∙ ap (λ j. e ∷ drop j entries) (omega (arith, lt)) in
      set-tree old new e.0 e.1 updates ∙ ap (λ m. insert m e.0 e.1) so_far ∙ ap (from_list {o = key_order}) (sym here)

  -- all of the list: the tree's entries are those of the map
  pub first_all : {V E : Type 0} (items : V → List (List ℕ × X)) (entries : List (List ℕ × X)) (first : BTreeMap (List ℕ) X) (n : ℕ) (r : Result V E) → length entries ≤ n →
      from_list {o = key_order} first.entries ≡ from_list (drop (length entries - n) entries) → tree.IsOrdered key_cmp first → IfOk r (λ out. items out ≡ first.entries) → IfOk r (λ out. items out ≡ (from_list {o = key_order} entries).entries)
  first_all items entries first n (Ok out) ge is ordered same =
      let none_left : length entries - n ≡ 0 = omega (arith, ge) in
      same ∙ sym (entries_of first.entries (sorted_is first.entries ordered)) ∙ ap (λ m. m.entries) (is ∙ ap (λ j. from_list {o = key_order} (drop j entries)) none_left)
  first_all items entries first n (Err e) ge is ordered same = tt

-- Trees of keys as lists of entries that ascend by key.
use Rattle.std.proofs.Common.{◌≡◌, ℕ, List, [], ◌∷◌, Some, cond, true, ◌&&◌, refl, sym, ap, subst, T, ◌∙◌}
use Rattle.std.specs.BTreeMap as tree
use Rattle.std.specs.BTreeMap.{BTreeMap}
use Rattle.std.specs.Map.{lookup, keys_of}
use Rattle.std.specs.FinMap.{find, is_sorted, put}
use Rattle.std.specs.FinMap.Entries.{below_all, find-put, is_sorted-put, same_entries}
use Rattle.std.specs.List.{AllByRecursion}
use Rattle.std.specs.List.Sorted.{IsStrictlySortedBy}
use Rattle.std.specs.declared.cmp.Ordering.TheVariants.{Less}
use Rattle.std.specs.Ordering.{is_lt}
use Rattle.std.proofs.lemmas.Map.Keys.{sorted_head, sorted_tail}
use Rattle.std.proofs.lemmas.Cmp.{eq_by_cmp_equiv}
use Rattle.pc_model.specs.Database.{key_cmp, key_order, same_bytes}

-- a look-up by key is one in the entries
pub find-lookup : {X : Type 0} (es : List (List ℕ × X)) (q : List ℕ) → find key_cmp q es ≡ lookup (same_bytes q) es
find-lookup [] q = refl
find-lookup (e ∷ es) q = ap (cond (same_bytes q e.0) (Some e.1)) (find-lookup es q)

below_all_is : {X : Type 0} (key : List ℕ) (es : List (List ℕ × X)) → AllByRecursion (λ y. key_cmp key y ≡ Less) (keys_of es) → below_all key_cmp key es ≡ true
below_all_is key [] below = refl
below_all_is key (e ∷ es) below = ap (λ o. is_lt o && below_all key_cmp key es) below.0 ∙ below_all_is key es below.1

-- keys that ascend in order are sorted
pub sorted_is : {X : Type 0} (es : List (List ℕ × X)) → IsStrictlySortedBy key_cmp (keys_of es) → is_sorted key_cmp es ≡ true
sorted_is [] rise = refl
sorted_is (e ∷ es) rise =
    ap (λ b. b && is_sorted key_cmp es) (below_all_is e.0 es (sorted_head key_cmp e.0 (keys_of es) rise)) ∙ sorted_is es (sorted_tail key_cmp e.0 (keys_of es) rise)

-- what is put into a tree is put among its entries
pub put_is : {X : Type 0} (old new : BTreeMap (List ℕ) X) (key : List ℕ) (x : X) → tree.IsOrdered key_cmp old → tree.IsOrdered key_cmp new → tree.Updates key_cmp old new key (Some x) → new.entries ≡ put key_cmp key x old.entries
put_is old new key x rise rises updates =
    same_entries key_cmp key_order.total key_order.exact new.entries (put key_cmp key x old.entries) (subst T (sym (sorted_is new.entries rises)) tt) (is_sorted-put key_cmp key_order.total key x old.entries (subst T (sym (sorted_is old.entries rise)) tt)) (λ q.
    find-lookup new.entries q ∙ updates.0 q ∙ ap (λ b. cond b (Some x) (tree.get key_cmp old q)) ((eq_by_cmp_equiv key_order.total).symm key q)
    ∙ ap (cond (same_bytes q key) (Some x)) (sym (find-lookup old.entries q)) ∙ sym (find-put key_cmp key_order.total q key x old.entries))

-- The effect of edits of ascending pairs on the database that they represent.
use Rattle.std.proofs.Common.{◌≡◌, ℕ, List, length, refl, sym, ap, subst, T, ◌∙◌, cond, not, None, Some, Bool, true, false, Result, Ok, Err}
use Rattle.std.specs.Prelude.{IsTrue, OnOk, OnErr}
use Rattle.std.specs.declared.alloc.AllocError.{AllocError}
use Rattle.std.specs.FinMap.{find, is_sorted, put}
use Rattle.std.specs.FinMap.Entries.{is_sorted-put, is_sorted-where_key, find-put, same_entries}
use Rattle.std.specs.Ordering.{eq_by_cmp}
use Rattle.pc_model.specs.Maps.{get, insert, remove, from_list, len}
use Rattle.pc_model.proofs.MapLaws.{get-insert, get-remove, get-entries, get-from_list, find-without, same_map}
use Rattle.pc_model.specs.Database.{key_cmp, key_order, Database}
use Rattle.pc_model.specs.Entries.{without_key}

abbrev Pair : Type 0
Pair = List ℕ × List ℕ

-- two databases with the same value at each key are one
pub same_database : (m n : Database) → ((key : List ℕ) → get m key ≡ get n key) → m ≡ n
same_database = same_map

-- a test that is true, as a fact that computes, and back
pub computes : {b : Bool} → IsTrue b → T b
computes {b} is = subst T (sym is) tt

pub tested : {b : Bool} → T b → IsTrue b
tested {b = true} t = refl
tested {b = false} t = absurd t

-- to put a pair in its place is to insert it
pub of_put : (old new : List Pair) (key value : List ℕ) → IsTrue (is_sorted key_cmp old) → new ≡ put key_cmp key value old → record { sorted : IsTrue (is_sorted key_cmp new); inserts : from_list {o = key_order} new ≡ insert (from_list old) key value }
of_put old new key value sorted is = record {
  sorted = rw is (tested (is_sorted-put key_cmp key_order.total key value old (computes sorted)));
  inserts = same_database _ _ (λ q. get-from_list key_order new q ∙ ap (find key_cmp q) is ∙ find-put key_cmp key_order.total q key value old
      ∙ ap (cond (eq_by_cmp key_cmp q key) (Some value)) (sym (get-from_list key_order old q)) ∙ sym (get-insert (from_list old) key value q));
}

-- to leave the other keys' pairs is to remove the key
pub of_without : (old new : List Pair) (key : List ℕ) → IsTrue (is_sorted key_cmp old) → new ≡ without_key key old → record { sorted : IsTrue (is_sorted key_cmp new); removes : from_list {o = key_order} new ≡ remove (from_list old) key }
of_without old new key sorted is = record {
  sorted = rw is (tested (is_sorted-where_key key_cmp (λ x. not (eq_by_cmp key_cmp key x)) old (computes sorted)));
  removes = same_database _ _ (λ q. get-from_list key_order new q ∙ ap (find key_cmp q) is ∙ find-without key_order key q old
      ∙ ap (cond (eq_by_cmp key_cmp q key) None) (sym (get-from_list key_order old q)) ∙ sym (get-remove (from_list old) key q));
}

-- to find the key in the pairs is to look it up
pub of_get : (pairs : List Pair) (q : List ℕ) → find key_cmp q pairs ≡ get {o = key_order} (from_list pairs) q
of_get pairs q = sym (get-from_list key_order pairs q)

-- the same if memory may fail
pub of_put_on_ok : (old new : List Pair) (key value : List ℕ) (r : Result (Unit {0}) AllocError) → IsTrue (is_sorted key_cmp old) → OnOk r (new ≡ put key_cmp key value old) → OnErr r (new ≡ old) →
    record { sorted : IsTrue (is_sorted key_cmp new); inserts : OnOk r (from_list {o = key_order} new ≡ insert (from_list old) key value) }
of_put_on_ok old new key value (Ok u) sorted ok err = of_put old new key value sorted ok
of_put_on_ok old new key value (Err e) sorted ok err = record { sorted = rw err sorted; inserts = tt }

-- a map made of ascending entries has just these entries
pub entries_of : {X : Type 0} (es : List (List ℕ × X)) → IsTrue (is_sorted key_cmp es) → (from_list {o = key_order} es).entries ≡ es
entries_of es sorted = same_entries key_cmp key_order.total key_order.exact _ es (from_list es).rises (computes sorted) (λ q. sym (get-entries (from_list es) q) ∙ get-from_list key_order es q)

pub len_of : (es : List Pair) → IsTrue (is_sorted key_cmp es) → length es ≡ len (from_list {o = key_order} es)
len_of es sorted = ap length (sym (entries_of es sorted))

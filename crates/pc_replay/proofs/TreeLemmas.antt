-- Trees of keys as databases.
use Rattle.std.proofs.Common.{◌≡◌, ℕ, List, [], ◌∷◌, Option, Some, None, cond, Bool, true, false, ◌&&◌, ◌||◌, not, ◌↔◌, refl, sym, ap, ◌∙◌}
use Rattle.std.specs.BTreeMap as tree
use Rattle.std.specs.BTreeMap.{BTreeMap}
use Rattle.std.specs.FinMap.{find}
use Rattle.std.specs.List.{list_any, list_all}
use Rattle.pc_model.specs.Files.{same_content}
use Rattle.pc_replay.specs.Trees.{has_all}
use Rattle.std.proofs.lemmas.Cmp.{eq_by_cmp_equiv}
use Rattle.pc_model.specs.Maps.{get}
use Rattle.pc_model.specs.Database.{Database, database_of, key_cmp, key_order, same_bytes, put}
use Rattle.pc_model.proofs.MapLaws.{get-from_list, get-entries}
use Rattle.pc_model.proofs.PairMapLaws.{same_database, entries_of, tested}
use Rattle.pc_model.proofs.JoinLaws.{get_put, one_key}
use Rattle.pc_model.proofs.KeyTreeLaws.{find-lookup, sorted_is}
use Rattle.pc_model.proofs.RisingLaws.{none_found}

-- a look-up in the tree is one in the database
pub get-tree : (m : BTreeMap (List ℕ) (List ℕ)) (q : List ℕ) → get (database_of m.entries) q ≡ tree.get key_cmp m q
get-tree m q = get-from_list key_order m.entries q ∙ find-lookup m.entries q

-- an update of the tree is a write
pub put-tree : (old new : BTreeMap (List ℕ) (List ℕ)) (key : List ℕ) (content : Option (List ℕ)) →
    ((q : List ℕ) → tree.get key_cmp new q ≡ cond (tree.is_at (key_cmp key) q) content (tree.get key_cmp old q)) → database_of new.entries ≡ put (database_of old.entries) key content
put-tree old new key content updates = same_database _ _ (λ q.
    get-tree new q ∙ updates q ∙ ap (λ b. cond b content (tree.get key_cmp old q)) ((eq_by_cmp_equiv key_order.total).symm key q)
    ∙ ap (cond (same_bytes q key) content) (sym (get-tree old q)) ∙ sym (get_put (database_of old.entries) key q content))

-- a tree's entries are its database's
pub entries_of_tree : (m : BTreeMap (List ℕ) (List ℕ)) → tree.IsOrdered key_cmp m → (database_of m.entries).entries ≡ m.entries
entries_of_tree m rise = entries_of m.entries (sorted_is m.entries rise)

same_value : (v : List ℕ) (o : Option (List ℕ)) → same_content (Some v) o ≡ true → o ≡ Some v
same_value v None same = cc
same_value v (Some w) same = ap Some (sym (one_key v w same))

pub both : (a b : Bool) → (a && b) ≡ true → (a ≡ true) × (b ≡ true)
both true b e = (refl, e)
both false b e = cc

pub found_too : (es : List (List ℕ × List ℕ)) (n : Database) (q v : List ℕ) → list_all (λ e. same_content (Some e.1) (get n e.0)) es ≡ true → find key_cmp q es ≡ Some v → get n q ≡ Some v
found_too [] n q v all there = cc
found_too (e ∷ es) n q v all there =
    let parts = both (same_content (Some e.1) (get n e.0)) (list_all (λ x. same_content (Some x.1) (get n x.0)) es) all in
    by_key (same_bytes q e.0) refl parts.0 (found_too es n q v parts.1) there
  where
    by_key : (b : Bool) → same_bytes q e.0 ≡ b → same_content (Some e.1) (get n e.0) ≡ true → (find key_cmp q es ≡ Some v → get n q ≡ Some v) → cond b (Some e.1) (find key_cmp q es) ≡ Some v → get n q ≡ Some v
    by_key true same own later is = ap (get n) (one_key q e.0 same) ∙ same_value e.1 (get n e.0) own ∙ is
    by_key false same own later is = later is

-- what the first database has, the second has
has_too : (m n : Database) (q v : List ℕ) → has_all m n ≡ true → get m q ≡ Some v → get n q ≡ Some v
has_too m n q v all there = found_too m.entries n q v all (sym (get-entries m q) ∙ there)

pub same_at : (a b : Option (List ℕ)) → ((v : List ℕ) → a ≡ Some v → b ≡ Some v) → ((v : List ℕ) → b ≡ Some v → a ≡ Some v) → a ≡ b
same_at None None first second = refl
same_at None (Some w) first second = second w refl
same_at (Some v) b first second = sym (first v refl)

none_fails : {X : Type 0} (f : X → Bool) (xs : List X) → list_any (λ x. not (f x)) xs ≡ false → list_all f xs ≡ true
none_fails f [] none = refl
none_fails f (x ∷ xs) none = by_first (f x) none (none_fails f xs)
  where
    by_first : (b : Bool) → (not b || list_any (λ y. not (f y)) xs) ≡ false → (list_any (λ y. not (f y)) xs ≡ false → list_all f xs ≡ true) → (b && list_all f xs) ≡ true
    by_first true none later = later none
    by_first false none later = cc

has_own : (m : Database) → has_all m m ≡ true
has_own m = none_fails (λ e. same_content (Some e.1) (get m e.0)) m.entries
    (none_found m.entries (λ e. not (same_content (Some e.1) (get m e.0))) (tested m.rises) (λ e there.
    ap (λ o. not (same_content (Some e.1) o)) (get-entries m e.0 ∙ there) ∙ ap not ((eq_by_cmp_equiv key_order.total).refl e.1)))

-- databases of which each has all of the other are one
pub same_by_all : (m n : Database) → (has_all m n && has_all n m) ≡ true ↔ m ≡ n
same_by_all m n = (
  λ all.
      let each = both (has_all m n) (has_all n m) all in
      same_database m n (λ q. same_at (get m q) (get n q) (λ v there. has_too m n q v each.0 there) (λ v there. has_too n m q v each.1 there)),
  λ same. rw same (ap (λ b. b && has_all n n) (has_own n) ∙ has_own n),
)

-- How many keys triples have.
use Rattle.std.proofs.Common.{◌≡◌, ℕ, ◌≤◌, ◌+◌, Bool, true, false, cond, List, [], ◌∷◌, map, Some, None, Option, is_some, refl, sym, ap, ◌∙◌, arith}
use Rattle.std.specs.FinMap.{find}
use Rattle.std.specs.FinMap.Entries.{length-put, is_some-find}
use Rattle.pc_model.specs.Maps.{get, insert, len}
use Rattle.pc_model.specs.Maps as map_of
use Rattle.pc_model.specs.Sets as set
use Rattle.pc_model.specs.Sets.{Set}
use Rattle.pc_model.specs.Database.{key_cmp, key_order}
use Rattle.pc_model.specs.Points.{AtPoint, Triples, newer, later, joined, joined_entries}
use Rattle.pc_model.proofs.MapLaws.{get-entries}
use Rattle.pc_model.proofs.SetLaws.{contains-from_list}
use Rattle.pc_model.proofs.PairMapLaws.{tested}
use Rattle.pc_model.proofs.CountLaws.{length_of_set}
use Rattle.pc_model.proofs.JoinLaws.{get-joined}

len_insert : (m : Triples) (k : List ℕ) (v : AtPoint) → len m ≤ len (insert m k v)
unfolding map_of.insert
len_insert m k v = by (is_some (find key_cmp k m.entries)) (length-put key_cmp key_order.total k v m.entries m.rises)
  where
    by : (b : Bool) → len (insert m k v) ≡ cond b (len m) (len m + 1) → len m ≤ len (insert m k v)
    by true is = omega (arith, is)
    by false is = omega (arith, is)

-- joining entries leaves no fewer
pub len_entries : (m : Triples) (es : List (List ℕ × AtPoint)) → len m ≤ len (joined_entries m es)
len_entries m [] = omega arith
len_entries m (e ∷ es) = let one = len_insert (joined_entries m es) e.0 (newer (get m e.0) e.1) in let rest = len_entries m es in omega (arith, one, rest)

keys_of : Triples → Set key_order
keys_of m = set.from_list (map (λ e. e.0) m.entries)

has_keys : (m : Triples) (q : List ℕ) → set.contains (keys_of m) q ≡ is_some (find key_cmp q m.entries)
unfolding keys_of
has_keys m q = contains-from_list key_order (map (λ e. e.0) m.entries) q ∙ sym (is_some-find key_cmp q m.entries)

-- if one has all keys of the other, it has no fewer
pub len_sub : (m n : Triples) → ((q : List ℕ) (x : AtPoint) → get m q ≡ Some x → is_some (get n q) ≡ true) → len m ≤ len n
len_sub m n sub = let more = len_entries m n.entries in let same : len (joined m n) ≡ len n = as_many in omega (arith, more, same)
  where
    both : (x y : Option AtPoint) → ((t : AtPoint) → x ≡ Some t → is_some y ≡ true) → is_some y ≡ is_some (later x y)
    both None None h = refl
    both None (Some b) h = refl
    both (Some a) None h = h a refl
    both (Some a) (Some b) h = refl

    as_many : len (joined m n) ≡ len n
    as_many = length_of_set (joined m n).entries (keys_of n) (tested (joined m n).rises) (λ q. has_keys n q ∙ ap is_some (sym (get-entries n q)) ∙ both (get m q) (get n q) (sub q) ∙ ap is_some (sym (get-joined m n q) ∙ get-entries (joined m n) q))
        ∙ sym (length_of_set n.entries (keys_of n) (tested n.rises) (has_keys n))

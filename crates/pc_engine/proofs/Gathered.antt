-- What was taken, in the order of keys.
use Rattle.std.proofs.Common.{◌≡◌, ℕ, ◌+◌, ◌≤◌, List, [], ◌∷◌, ◌++◌, length, map, Option, Some, None, is_some, refl, sym, ap, ◌∙◌, arith, cond, Bool, true, false, ◌||◌}
use Rattle.std.specs.List.{IsDistinct, AllByRecursion}
use Rattle.std.specs.FinMap.{find, put}
use Rattle.std.specs.FinMap.Entries.{by_order, find-put, is_some-find, is_sorted-put, length-put, same_entries}
use Rattle.std.specs.declared.cmp.Ordering.{Ordering}
use Rattle.std.specs.declared.cmp.Ordering.TheVariants.{Less, Equal, Greater}
use Rattle.std.proofs.lemmas.Cmp.{eq_by_cmp_equiv}
use Rattle.pc_model.specs.Maps.{Map, empty, insert, get, from_list}
use Rattle.pc_model.specs.Database.{key_cmp, key_order, same_bytes}
use Rattle.pc_model.specs.Points.{AtPoint, is_among}
use Rattle.pc_model.specs.Files.{triples_taken}
use Rattle.pc_model.proofs.JoinLaws.{one_key}
use Rattle.pc_model.proofs.MapLaws.{get-insert, get-empty, get-entries, get-from_list, same_map}
use Rattle.pc_engine.specs.Stands.{by_key}

abbrev Pair : Type 0
Pair = List ℕ × Option (List ℕ)

-- the keys of the takes
abbrev keys_in : List Pair → List (List ℕ)
keys_in takes = map (λ t. t.0) takes

-- the content at the point, if there is one
abbrev at_point : ℕ → Option (Option (List ℕ)) → Option AtPoint
at_point point None = None
at_point point (Some content) = Some (record { point = point; content = content })

-- what the triples have is what was taken first
get-triples_taken : (point : ℕ) (taken : List Pair) (q : List ℕ) → get (triples_taken point taken) q ≡ at_point point (find key_cmp q taken)
get-triples_taken point [] q = get-empty key_order q
get-triples_taken point (t ∷ ts) q = get-insert (triples_taken point ts) t.0 (record { point = point; content = t.1 }) q ∙ by_test (same_bytes q t.0) (get-triples_taken point ts q)
  where
    by_test : (b : Bool) → get (triples_taken point ts) q ≡ at_point point (find key_cmp q ts) → cond b (Some (record { point = point; content = t.1 })) (get (triples_taken point ts) q) ≡ at_point point (cond b (Some t.1) (find key_cmp q ts))
    by_test true e = refl
    by_test false e = e

-- a look-up in the order of keys finds what was taken first
find-by_key : (q : List ℕ) (takes : List Pair) → find key_cmp q (by_key takes) ≡ find key_cmp q takes
find-by_key q takes = sym (get-entries (from_list {o = key_order} takes) q) ∙ get-from_list key_order takes q

-- in either order it makes the same triples
pub same_triples : (point : ℕ) (takes : List Pair) → triples_taken point (by_key takes) ≡ triples_taken point takes
same_triples point takes =
    same_map (triples_taken point (by_key takes)) (triples_taken point takes) (λ q. get-triples_taken point (by_key takes) q ∙ ap (at_point point) (find-by_key q takes) ∙ sym (get-triples_taken point takes q))

-- nothing was taken
pub by_key_none : by_key [] ≡ []
unfolding empty
by_key_none = refl

-- two different keys can be looked for in either order
either_first : (q k l : List ℕ) (x y z : Option (Option (List ℕ))) → same_bytes k l ≡ false → cond (same_bytes q l) x (cond (same_bytes q k) y z) ≡ cond (same_bytes q k) y (cond (same_bytes q l) x z)
either_first q k l x y z apart = by_tests (same_bytes q l) (same_bytes q k) (λ a b. at_both (ap (λ r. same_bytes r l) (one_key q k b) ∙ apart) a)
  where
    at_both : {b : Bool} → b ≡ false → b ≡ true → ⊥
    at_both e f = cc

    by_tests : (a b : Bool) → (a ≡ true → b ≡ true → ⊥) → cond a x (cond b y z) ≡ cond b y (cond a x z)
    by_tests true true never = absurd (never refl refl)
    by_tests true false never = refl
    by_tests false b never = refl

-- one more take, of a key that was not taken: it is found last
find-last : (q k : List ℕ) (content : Option (List ℕ)) (takes : List Pair) → is_among (keys_in takes) k ≡ false → find key_cmp q (takes ++ (k, content) ∷ []) ≡ cond (same_bytes q k) (Some content) (find key_cmp q takes)
find-last q k content [] apart = refl
find-last q k content (t ∷ ts) apart = by_test (same_bytes k t.0) refl apart (λ e. find-last q k content ts e)
  where
    found_last : List Pair → Type 0
    found_last takes = find key_cmp q (takes ++ (k, content) ∷ []) ≡ cond (same_bytes q k) (Some content) (find key_cmp q takes)

    by_test : (b : Bool) → same_bytes k t.0 ≡ b → (b || is_among (keys_in ts) k) ≡ false → (is_among (keys_in ts) k ≡ false → found_last ts) → found_last (t ∷ ts)
    by_test true is e others = cc
    by_test false is e others = ap (cond (same_bytes q t.0) (Some t.1)) (others e) ∙ either_first q k t.0 (Some t.1) (Some content) (find key_cmp q ts) is

-- so it has its place among the others
pub by_key_more : (takes : List Pair) (k : List ℕ) (content : Option (List ℕ)) → is_among (keys_in takes) k ≡ false → put key_cmp k content (by_key takes) ≡ by_key (takes ++ (k, content) ∷ [])
by_key_more takes k content apart =
    let old : Map key_order (Option (List ℕ)) = from_list takes in
    let new : Map key_order (Option (List ℕ)) = from_list (takes ++ (k, content) ∷ []) in
    same_entries key_cmp key_order.total key_order.exact (put key_cmp k content old.entries) new.entries (is_sorted-put key_cmp key_order.total k content old.entries old.rises) new.rises (λ q.
    find-put key_cmp key_order.total q k content old.entries ∙ ap (cond (same_bytes q k) (Some content)) (find-by_key q takes) ∙ sym (find-last q k content takes apart) ∙ sym (find-by_key q (takes ++ (k, content) ∷ [])))

-- an entry that is put in its place is at most one more
pub length_put : (k : List ℕ) (content : Option (List ℕ)) (entries : List Pair) → length (put key_cmp k content entries) ≤ length entries + 1
length_put k content [] = omega arith
length_put k content (e ∷ es) = by_order_of (key_cmp k e.0) (length_put k content es)
  where
    by_order_of : (o : Ordering) → length (put key_cmp k content es) ≤ length es + 1 → length (by_order o ((k, content) ∷ e ∷ es) ((e.0, content) ∷ es) (e ∷ put key_cmp k content es)) ≤ length (e ∷ es) + 1
    by_order_of Less few = omega arith
    by_order_of Equal few = omega arith
    by_order_of Greater few = omega (arith, few)

length_insert : (m : Map key_order (Option (List ℕ))) (k : List ℕ) (v : Option (List ℕ)) → is_some (find key_cmp k m.entries) ≡ false → length (insert m k v).entries ≡ length m.entries + 1
unfolding insert
length_insert m k v none = length-put key_cmp key_order.total k v m.entries m.rises ∙ ap (λ b. cond b (length m.entries) (length m.entries + 1)) none

-- of keys that occur once each a first one isn't among the others
pub apart_from : (key : List ℕ) (keys : List (List ℕ)) → AllByRecursion (λ k. same_bytes key k ≡ false) keys → is_among keys key ≡ false
apart_from key [] all = refl
apart_from key (k ∷ keys) all = ap (λ b. b || is_among keys key) all.0 ∙ apart_from key keys all.1

-- takes of different keys stay as many
pub count_by_key : (takes : List Pair) → IsDistinct same_bytes (keys_in takes) → length (by_key takes) ≡ length takes
unfolding IsDistinct
count_by_key [] once = ap (λ (es : List Pair). length es) by_key_none
count_by_key (t ∷ ts) once =
    let one = length_insert (from_list ts) t.0 t.1 (ap is_some (find-by_key t.0 ts) ∙ is_some-find key_cmp t.0 ts ∙ apart_from t.0 (keys_in ts) once.0) in
    omega (arith, one, count_by_key ts once.1)

-- a key that comes after others, once, isn't among them
pub earlier_apart : (gone : List (List ℕ)) (key : List ℕ) (keys : List (List ℕ)) → IsDistinct same_bytes (gone ++ key ∷ keys) → is_among gone key ≡ false
unfolding IsDistinct
earlier_apart [] key keys once = refl
earlier_apart (g ∷ gone) key keys once = ap (λ b. b || is_among gone key) ((eq_by_cmp_equiv key_order.total).symm key g ∙ at_key gone once.0) ∙ earlier_apart gone key keys once.1
  where
    at_key : (between : List (List ℕ)) → AllByRecursion (λ k. same_bytes g k ≡ false) (between ++ key ∷ keys) → same_bytes g key ≡ false
    at_key [] all = all.0
    at_key (k ∷ between) all = at_key between all.1

-- keys that come before others, all once, occur once
pub front_once : (gone keys : List (List ℕ)) → IsDistinct same_bytes (gone ++ keys) → IsDistinct same_bytes gone
unfolding IsDistinct
front_once [] keys once = tt
front_once (g ∷ gone) keys once = (of_front gone once.0, front_once gone keys once.1)
  where
    of_front : (front : List (List ℕ)) → AllByRecursion (λ k. same_bytes g k ≡ false) (front ++ keys) → AllByRecursion (λ k. same_bytes g k ≡ false) front
    of_front [] all = tt
    of_front (k ∷ front) all = (all.0, of_front front all.1)

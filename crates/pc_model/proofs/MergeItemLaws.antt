-- What an iterator over two lists by key gives: the items that a merge is made of.
use Rattle.std.proofs.Common.{◌≡◌, ℕ, ◌+◌, ◌≤◌, ◌<◌, List, [], ◌∷◌, map, length, get_or, suc, Option, refl, sym, ap, subst, arith, Bor}
use Rattle.std.specs.declared.cmp.Ordering.{Ordering}
use Rattle.std.specs.declared.cmp.Ordering.TheVariants.{Less, Equal, Greater}
use Rattle.std.specs.Bool.{⊤}
use Rattle.std.specs.List.{All}
use Rattle.std.proofs.lemmas.List.{length-map}
use Rattle.std.proofs.lemmas.List.Elements.{All-cons, All-nil}
use Rattle.std.proofs.lemmas.Iterator.{YieldsList}
use Rattle.itertools.specs.Adaptor.{EachRunBehindBoth, EndsWithBoth, GivesOfBoth}
use Rattle.itertools.specs.List.{by_ordering, merge_join_at, merge_join_by}
use Rattle.itertools.specs.TwoSources.{ActsAsAtBoth}
use Rattle.itertools.specs.declared.either_or_both.EitherOrBoth.{EitherOrBoth}
use Rattle.itertools.specs.declared.either_or_both.EitherOrBoth.TheVariants.{Both, Left, Right}
use Rattle.itertools.proofs.TwoLemmas.{YieldsList-from_gives_of_both, YieldsList-from_gives_of_both_refs}
use denote.Param.Members.{Mut}
use Rattle.pc_model.specs.Database.{key_cmp, key_order}
use Rattle.pc_model.specs.Merges.{item_of, IsOfOneKey}

-- the entries of two lists, in the order of their keys
abbrev pub items : {X Y : Type 0} → List (List ℕ × X) → List (List ℕ × Y) → List (EitherOrBoth (List ℕ × X) (List ℕ × Y))
items = merge_join_by (λ x y. key_cmp x.0 y.0)

abbrev left_of : {X Y : Type 0} → X → EitherOrBoth X Y
left_of x = Left x

abbrev right_of : {X Y : Type 0} → Y → EitherOrBoth X Y
right_of y = Right y

-- there are no more items than entries in both lists
module _ {X Y : Type 0} where
  len_at : (x : List ℕ × X) (xs : List (List ℕ × X)) → ((ys : List (List ℕ × Y)) → length (items xs ys) ≤ length xs + length ys) → (ys : List (List ℕ × Y)) → length (items (x ∷ xs) ys) ≤ suc (length xs) + length ys
  len_at x xs again [] = let same = length-map xs (λ a. left_of {Y = List ℕ × Y} a) in omega (arith, same)
  len_at x xs again (y ∷ ys) = by (key_cmp x.0 y.0) (again (y ∷ ys)) (again ys) (len_at x xs again ys)
    where
      by : (o : Ordering) → length (items xs (y ∷ ys)) ≤ length xs + suc (length ys) → length (items xs ys) ≤ length xs + length ys → length (items (x ∷ xs) ys) ≤ suc (length xs) + length ys
          → length (by_ordering o (Left x ∷ items xs (y ∷ ys)) (Both x y ∷ items xs ys) (Right y ∷ items (x ∷ xs) ys)) ≤ suc (length xs) + suc (length ys)
      by Less first both second = omega (arith, first)
      by Equal first both second = omega (arith, both)
      by Greater first both second = omega (arith, second)

  pub items_len : (xs : List (List ℕ × X)) (ys : List (List ℕ × Y)) → length (items xs ys) ≤ length xs + length ys
  items_len [] ys = let same = length-map ys (λ b. right_of {X = List ℕ × X} b) in omega (arith, same)
  items_len (x ∷ xs) ys = len_at x xs (items_len xs) ys

-- an item that has an entry of each list has two of one key
module _ {X Y : Type 0} where
  abbrev AllOfOneKey : List (EitherOrBoth (List ℕ × X) (List ℕ × Y)) → Type 0
  AllOfOneKey = All IsOfOneKey

  keys_left : (xs : List (List ℕ × X)) → AllOfOneKey (map (λ x. Left x) xs)
  keys_left [] = All-nil IsOfOneKey
  keys_left (x ∷ xs) = All-cons IsOfOneKey (Left x) (map (λ x. Left x) xs) tt (keys_left xs)

  keys_at : (x : List ℕ × X) (xs : List (List ℕ × X)) → ((ys : List (List ℕ × Y)) → AllOfOneKey (items xs ys)) → (ys : List (List ℕ × Y)) → AllOfOneKey (items (x ∷ xs) ys)
  keys_at x xs again [] = All-cons IsOfOneKey (Left x) (map (λ x. Left x) xs) tt (keys_left xs)
  keys_at x xs again (y ∷ ys) = by (key_cmp x.0 y.0) refl (keys_at x xs again ys)
    where
      by : (o : Ordering) → key_cmp x.0 y.0 ≡ o → AllOfOneKey (items (x ∷ xs) ys) → AllOfOneKey (by_ordering o (Left x ∷ items xs (y ∷ ys)) (Both x y ∷ items xs ys) (Right y ∷ items (x ∷ xs) ys))
      by Less is later = All-cons IsOfOneKey (Left x) (items xs (y ∷ ys)) tt (again (y ∷ ys))
      by Equal is later = All-cons IsOfOneKey (Both x y) (items xs ys) (key_order.exact x.0 y.0 is) (again ys)
      by Greater is later = All-cons IsOfOneKey (Right y) (items (x ∷ xs) ys) tt later

  keys_of : (xs : List (List ℕ × X)) (ys : List (List ℕ × Y)) → AllOfOneKey (items xs ys)
  keys_of [] [] = All-nil IsOfOneKey
  keys_of [] (y ∷ ys) = All-cons IsOfOneKey (Right y) (items {X = X} [] ys) tt (keys_of [] ys)
  keys_of (x ∷ xs) ys = keys_at x xs (keys_of xs) ys

  pub of_one_key : (xs : List (List ℕ × X)) (ys : List (List ℕ × Y)) (n : ℕ) (item : EitherOrBoth (List ℕ × X) (List ℕ × Y)) → (n < length (items xs ys)) × (item ≡ get_or (items xs ys) n item) → IsOfOneKey item
  of_one_key xs ys n item at = subst IsOfOneKey (sym at.1) (keys_of xs ys n item at.0)

-- each run of an iterator over two sources gives what the order of its closure makes of the items of both, whatever these are
abbrev MergesByOrder : {A B S T U F : Type 0} → (U → Option (EitherOrBoth A B) → U → Type 0) → U → (S → Option A → S → Type 0) → S → (T → Option B → T → Type 0) → T → Mut F (Bor A × (Bor B × ⊤)) Ordering → F → Type 0
MergesByOrder {A} {B} steps s firsts x seconds y call compare =
    EachRunBehindBoth steps s firsts x seconds y (λ p a b. EndsWithBoth p a b × ((h : A → B → Ordering) → ActsAsAtBoth call compare h → GivesOfBoth p a b (merge_join_by h)))

-- so it gives what this order makes, and does so if a loop has taken it over
merges_by : {A B S T U F : Type 0} {steps : U → Option (EitherOrBoth A B) → U → Type 0} {firsts : S → Option A → S → Type 0} {seconds : T → Option B → T → Type 0} {s t : U} {x : S} {y : T} (call : Mut F (Bor A × (Bor B × ⊤)) Ordering) (compare : F) (h : A → B → Ordering)
    → t ≡ s → MergesByOrder steps s firsts x seconds y call compare → ActsAsAtBoth call compare h → EachRunBehindBoth steps t firsts x seconds y (λ p a b. GivesOfBoth p a b (merge_join_by h))
merges_by call compare h same runs acts = rw same (λ p on at. let r = runs p on at in (r.0, r.1, (r.2.0, r.2.1, r.2.2.1 h acts)))

-- one over entries that are taken over gives their items, in order
pub items_taken : {X Y S T U F : Type 0} {steps : U → Option (EitherOrBoth (List ℕ × X) (List ℕ × Y)) → U → Type 0} {firsts : S → Option (List ℕ × X) → S → Type 0} {seconds : T → Option (List ℕ × Y) → T → Type 0} {s t : U} {x : S} {y : T} {xs : List (List ℕ × X)} {ys : List (List ℕ × Y)}
    (call : Mut F (Bor (List ℕ × X) × (Bor (List ℕ × Y) × ⊤)) Ordering) (compare : F) → t ≡ s → MergesByOrder steps s firsts x seconds y call compare → ActsAsAtBoth call compare (λ x y. key_cmp x.0 y.0)
    → YieldsList firsts (λ a. a) x xs → YieldsList seconds (λ b. b) y ys → YieldsList steps (λ item. item) t (items xs ys)
items_taken call compare same runs acts = YieldsList-from_gives_of_both items (merges_by call compare (λ x y. key_cmp x.0 y.0) same runs acts)

module _ {A B X Y : Type 0} (first : A → List ℕ × X) (second : B → List ℕ × Y) where
  -- how two references compare by the keys of their entries
  abbrev pub by_key : Bor A → Bor B → Ordering
  by_key x y = key_cmp (first x.now).0 (second y.now).0

  abbrev firsts_of : List (Bor A) → List (List ℕ × X)
  firsts_of us = map first (map (λ x. x.now) us)

  abbrev seconds_of : List (Bor B) → List (List ℕ × Y)
  seconds_of vs = map second (map (λ y. y.now) vs)

  only_seconds : (vs : List (Bor B)) → map (item_of first second) (map (λ (y : Bor B). right_of {X = Bor A} y) vs) ≡ map (λ y. Right y) (seconds_of vs)
  only_seconds [] = refl
  only_seconds (v ∷ vs) = ap (λ l. Right (second v.now) ∷ l) (only_seconds vs)

  only_firsts : (us : List (Bor A)) → map (item_of first second) (map (λ (x : Bor A). left_of {Y = Bor B} x) us) ≡ map (λ x. Left x) (firsts_of us)
  only_firsts [] = refl
  only_firsts (u ∷ us) = ap (λ l. Left (first u.now) ∷ l) (only_firsts us)

  items_at : (u : Bor A) (us : List (Bor A)) → ((vs : List (Bor B)) → map (item_of first second) (merge_join_by by_key us vs) ≡ items (firsts_of us) (seconds_of vs)) → (vs : List (Bor B))
      → map (item_of first second) (merge_join_at by_key u us (merge_join_by by_key us) vs) ≡ items (firsts_of (u ∷ us)) (seconds_of vs)
  items_at u us again [] = ap (λ l. Left (first u.now) ∷ l) (only_firsts us)
  items_at u us again (v ∷ vs) = by (by_key u v) (items_at u us again vs)
    where
      by : (o : Ordering) → map (item_of first second) (merge_join_at by_key u us (merge_join_by by_key us) vs) ≡ items (firsts_of (u ∷ us)) (seconds_of vs)
          → map (item_of first second) (by_ordering o (Left u ∷ merge_join_by by_key us (v ∷ vs)) (Both u v ∷ merge_join_by by_key us vs) (Right v ∷ merge_join_at by_key u us (merge_join_by by_key us) vs))
          ≡ by_ordering o (Left (first u.now) ∷ items (firsts_of us) (seconds_of (v ∷ vs))) (Both (first u.now) (second v.now) ∷ items (firsts_of us) (seconds_of vs)) (Right (second v.now) ∷ items (firsts_of (u ∷ us)) (seconds_of vs))
      by Less later = ap (λ l. Left (first u.now) ∷ l) (again (v ∷ vs))
      by Equal later = ap (λ l. Both (first u.now) (second v.now) ∷ l) (again vs)
      by Greater later = ap (λ l. Right (second v.now) ∷ l) later

  -- the items of two lists of references are those of their entries
  items_are : (us : List (Bor A)) (vs : List (Bor B)) → map (item_of first second) (merge_join_by by_key us vs) ≡ items (firsts_of us) (seconds_of vs)
  items_are [] vs = only_seconds vs
  items_are (u ∷ us) vs = items_at u us (items_are us) vs

  -- one over references gives the items of what they refer to
  pub items_given : {S T U F : Type 0} {steps : U → Option (EitherOrBoth (Bor A) (Bor B)) → U → Type 0} {firsts : S → Option (Bor A) → S → Type 0} {seconds : T → Option (Bor B) → T → Type 0} {s t : U} {x : S} {y : T} {xs : List A} {ys : List B}
      (call : Mut F (Bor (Bor A) × (Bor (Bor B) × ⊤)) Ordering) (compare : F) (es : List (List ℕ × X)) (ks : List (List ℕ × Y)) → map first xs ≡ es → map second ys ≡ ks → t ≡ s
      → MergesByOrder steps s firsts x seconds y call compare → ActsAsAtBoth call compare by_key
      → YieldsList firsts (λ a. a.now) x xs → YieldsList seconds (λ b. b.now) y ys → YieldsList steps (item_of first second) t (items es ks)
  items_given call compare es ks is_es is_ks same runs acts =
      rw (← is_es, ← is_ks) (YieldsList-from_gives_of_both_refs (item_of first second) (merge_join_by by_key) (λ xs ys. items (map first xs) (map second ys)) items_are (merges_by call compare by_key same runs acts))

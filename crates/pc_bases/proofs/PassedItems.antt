-- What an iterator over pairs and a pass gives: the items that a merge is made of.
use Rattle.std.proofs.Common.{◌≡◌, ℕ, List, [], ◌∷◌, map, map-id, Option, refl, ap, Bor}
use Rattle.std.specs.declared.cmp.Ordering.{Ordering}
use Rattle.std.specs.declared.cmp.Ordering.TheVariants.{Less, Equal, Greater}
use Rattle.std.specs.Bool.{⊤}
use Rattle.std.specs.Iterator.{YieldsFirst}
use Rattle.std.proofs.lemmas.Iterator.{YieldsList}
use Rattle.std.proofs.lemmas.Iterator.Consumers.{YieldsList-from_first}
use Rattle.itertools.specs.Adaptor.{EachRunBehindBoth, EndsWithBoth, GivesOfBoth}
use Rattle.itertools.specs.EitherOrBoth.{map_any}
use Rattle.itertools.specs.List.{by_ordering, merge_join_at, merge_join_by}
use Rattle.itertools.specs.TwoSources.{ActsAsAtBoth}
use Rattle.itertools.specs.declared.either_or_both.EitherOrBoth.{EitherOrBoth}
use Rattle.itertools.specs.declared.either_or_both.EitherOrBoth.TheVariants.{Both, Left, Right}
use Rattle.itertools.proofs.AdaptorLemmas.{ref_to}
use Rattle.itertools.proofs.TwoLemmas.{YieldsList-from_front_of_both}
use denote.Param.Members.{Mut}
use Rattle.pc_types.specs.declared.Triple.{Triple}
use Rattle.pc_model.specs.Database.{key_cmp}
use Rattle.pc_model.specs.TripleLists.{entry_of, map_entries}
use Rattle.pc_model.proofs.MergeItemLaws.{items}

-- each run of an iterator over two sources gives what the order of its closure makes of the items of both, whatever these are
abbrev MergesByOrder : {A B S T U F : Type 0} → (U → Option (EitherOrBoth A B) → U → Type 0) → U → (S → Option A → S → Type 0) → S → (T → Option B → T → Type 0) → T → Mut F (Bor A × (Bor B × ⊤)) Ordering → F → Type 0
MergesByOrder {A} {B} steps s firsts x seconds y call compare =
    EachRunBehindBoth steps s firsts x seconds y (λ p a b. EndsWithBoth p a b × ((h : A → B → Ordering) → ActsAsAtBoth call compare h → GivesOfBoth p a b (merge_join_by h)))

module _ {A B X Y : Type 0} (first : A → List ℕ × X) (second : B → List ℕ × Y) where
  -- how two of them compare by the keys of their entries
  abbrev pub by_key : A → B → Ordering
  by_key x y = key_cmp (first x).0 (second y).0

  -- an item of them as one of their entries
  abbrev pub entries_in : EitherOrBoth A B → EitherOrBoth (List ℕ × X) (List ℕ × Y)
  entries_in = map_any first second

  abbrev left_of : A → EitherOrBoth A B
  left_of x = Left x

  abbrev right_of : B → EitherOrBoth A B
  right_of y = Right y

  only_seconds : (vs : List B) → map entries_in (map right_of vs) ≡ map (λ y. Right y) (map second vs)
  only_seconds [] = refl
  only_seconds (v ∷ vs) = ap (λ l. Right (second v) ∷ l) (only_seconds vs)

  only_firsts : (us : List A) → map entries_in (map left_of us) ≡ map (λ x. Left x) (map first us)
  only_firsts [] = refl
  only_firsts (u ∷ us) = ap (λ l. Left (first u) ∷ l) (only_firsts us)

  items_at : (u : A) (us : List A) → ((vs : List B) → map entries_in (merge_join_by by_key us vs) ≡ items (map first us) (map second vs)) → (vs : List B)
      → map entries_in (merge_join_at by_key u us (merge_join_by by_key us) vs) ≡ items (map first (u ∷ us)) (map second vs)
  items_at u us again [] = ap (λ l. Left (first u) ∷ l) (only_firsts us)
  items_at u us again (v ∷ vs) = by (by_key u v) (items_at u us again vs)
    where
      by : (o : Ordering) → map entries_in (merge_join_at by_key u us (merge_join_by by_key us) vs) ≡ items (map first (u ∷ us)) (map second vs)
          → map entries_in (by_ordering o (Left u ∷ merge_join_by by_key us (v ∷ vs)) (Both u v ∷ merge_join_by by_key us vs) (Right v ∷ merge_join_at by_key u us (merge_join_by by_key us) vs))
          ≡ by_ordering o (Left (first u) ∷ items (map first us) (map second (v ∷ vs))) (Both (first u) (second v) ∷ items (map first us) (map second vs)) (Right (second v) ∷ items (map first (u ∷ us)) (map second vs))
      by Less later = ap (λ l. Left (first u) ∷ l) (again (v ∷ vs))
      by Equal later = ap (λ l. Both (first u) (second v) ∷ l) (again vs)
      by Greater later = ap (λ l. Right (second v) ∷ l) later

  -- the items of two lists are those of their entries
  items_are : (us : List A) (vs : List B) → map entries_in (merge_join_by by_key us vs) ≡ items (map first us) (map second vs)
  items_are [] vs = only_seconds vs
  items_are (u ∷ us) vs = items_at u us (items_are us) vs

  -- so an iterator over both gives these, if a loop has taken it over
  gives_items : {S T U F : Type 0} {steps : U → Option (EitherOrBoth A B) → U → Type 0} {firsts : S → Option A → S → Type 0} {seconds : T → Option B → T → Type 0} {s t : U} {x : S} {y : T} (call : Mut F (Bor A × (Bor B × ⊤)) Ordering) (compare : F)
      → t ≡ s → MergesByOrder steps s firsts x seconds y call compare → ActsAsAtBoth call compare by_key → EachRunBehindBoth steps t firsts x seconds y (λ p a b. GivesOfBoth p a b (merge_join_by by_key))
  gives_items call compare same runs acts = rw same (λ p on at. let r = runs p on at in (r.0, r.1, (r.2.0, r.2.1, r.2.2.1 by_key acts)))

-- a pass gives the triples that are to come
pub all_to_come : {s : List Triple} (xs : List Triple) → s ≡ xs → YieldsList (YieldsFirst (λ s. s)) (λ t. t) s xs
all_to_come xs is = YieldsList-from_first (λ t. t) (λ s. s) xs is

-- one over borrowed pairs and a pass gives the items of the pairs and of the triples
pub items_of_pairs : {S T U F : Type 0} {steps : U → Option (EitherOrBoth (Bor (List ℕ × List ℕ)) Triple) → U → Type 0} {firsts : S → Option (Bor (List ℕ × List ℕ)) → S → Type 0} {seconds : T → Option Triple → T → Type 0} {s t : U} {x : S} {y : T} {xs : List (List ℕ × List ℕ)} {ys : List Triple}
    (call : Mut F (Bor (Bor (List ℕ × List ℕ)) × (Bor Triple × ⊤)) Ordering) (compare : F) → t ≡ s → MergesByOrder steps s firsts x seconds y call compare → ActsAsAtBoth call compare (by_key (λ pair. pair.now) entry_of)
    → YieldsList firsts (λ a. a.now) x xs → YieldsList seconds (λ b. b) y ys → YieldsList steps (entries_in (λ pair. pair.now) entry_of) t (items xs (map_entries ys))
items_of_pairs call compare same runs acts =
    YieldsList-from_front_of_both (entries_in (λ pair. pair.now) entry_of) (merge_join_by (by_key (λ pair. pair.now) entry_of)) (λ us vs. items us (map_entries vs)) ref_to (λ b. b) (λ _. refl) (λ _. refl)
    (λ us vs. rw (map-id vs) (items_are (λ pair. pair.now) entry_of us vs)) (λ p on at. let r = gives_items (λ pair. pair.now) entry_of call compare same runs acts p on at in (r.0, r.1, (r.2.0, r.2.1, r.2.2.2)))

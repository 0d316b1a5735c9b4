-- The ranges of points, one point after the other.
use Rattle.std.proofs.Common.{◌≡◌, ◌≢◌, ℕ, ◌+◌, ◌<◌, ◌≤◌, ◌==◌, if◌then◌else◌, true, false, List, [], ◌∷◌, ◌++◌, length, get_or, drop, drop-cons, add-one, codes, refl, arith, append_assoc}
use Rattle.std.proofs.lemmas.Bool.Decides.{nat_tests}
use Rattle.std.proofs.lemmas.List.{drop_all, append-nil}
use Rattle.pc_model.specs.Ranges.{with_range_before, ranges_of}
use Rattle.pc_texts.specs.Texts.{range_text, ranges_text}

-- a point that follows on the range joins it
joins : (low high p : ℕ) (ranges : List (ℕ × ℕ)) → p ≡ high + 1 → with_range_before low high (with_range_before p p ranges) ≡ with_range_before low p ranges
joins low high p [] e = grind (arith, nat_tests)
joins low high p (r ∷ ranges) e = grind (arith, nat_tests)

-- one that doesn't begins a range of its own
parts : (low high p : ℕ) (ranges : List (ℕ × ℕ)) → p ≢ high + 1 → with_range_before low high (with_range_before p p ranges) ≡ (low, high) ∷ with_range_before p p ranges
parts low high p [] e = grind (arith, nat_tests)
parts low high p (r ∷ ranges) e = grind (arith, nat_tests)

-- the text of a first range, if another one follows
first_text : (low high p : ℕ) (ranges : List (ℕ × ℕ)) → ranges_text ((low, high) ∷ with_range_before p p ranges) ≡ range_text (low, high) ++ (codes "," ++ ranges_text (with_range_before p p ranges))
first_text low high p [] = refl
first_text low high p (r ∷ ranges) = elim (r.0 == p + 1) as (λ b. ranges_text ((low, high) ∷ (if b then (p, r.1) ∷ ranges else (p, p) ∷ r ∷ ranges)) ≡ range_text (low, high) ++ (codes "," ++ ranges_text (if b then (p, r.1) ∷ ranges else (p, p) ∷ r ∷ ranges))) [ true ↦ refl | false ↦ refl ]

next_point : (others : List ℕ) (i p : ℕ) → i < length others → p ≡ get_or others i p → ranges_of (drop i others) ≡ with_range_before p p (ranges_of (drop (i + 1) others))
next_point others i p lt e = rw (drop-cons others i p lt, ← e, add-one) refl

-- the text goes on with a point that joins the range
pub joined_text : (text whole others : List ℕ) (low high p i : ℕ) → i < length others → p ≡ get_or others i p → p ≡ high + 1
    → text ++ ranges_text (with_range_before low high (ranges_of (drop i others))) ≡ whole
    → text ++ ranges_text (with_range_before low p (ranges_of (drop (i + 1) others))) ≡ whole
joined_text text whole others low high p i lt at e h = rw (next_point others i p lt at, joins low high p (ranges_of (drop (i + 1) others)) e) at h

-- or with the range, a comma and the others
pub parted_text : (text whole others : List ℕ) (low high p i : ℕ) → i < length others → p ≡ get_or others i p → p ≢ high + 1
    → text ++ ranges_text (with_range_before low high (ranges_of (drop i others))) ≡ whole
    → text ++ ((range_text (low, high) ++ codes ",") ++ ranges_text (with_range_before p p (ranges_of (drop (i + 1) others)))) ≡ whole
parted_text text whole others low high p i lt at e h =
    let others_after = ranges_of (drop (i + 1) others) in
    rw append_assoc (rw (next_point others i p lt at, parts low high p others_after e, first_text low high p others_after) at h)

-- or ends with the range
pub ended_text : (text whole others : List ℕ) (low high i : ℕ) → length others ≤ i
    → text ++ ranges_text (with_range_before low high (ranges_of (drop i others))) ≡ whole
    → text ++ (range_text (low, high) ++ []) ≡ whole
ended_text text whole others low high i le h = rw append-nil (rw (drop_all i others) at h)

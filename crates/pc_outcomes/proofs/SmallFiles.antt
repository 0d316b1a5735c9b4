-- A file of points of a legal history has fewer entries than a file may have, and the base with it applied has no more pairs than
-- there is room for.
use Rattle.std.proofs.Common.{◌≡◌, ℕ, ◌+◌, ◌≤◌, ◌<◌, ◌||◌, ◌&&◌, not, Bool, true, false, cond, List, [], ◌∷◌, Some, None, refl, sym, ap, ◌∙◌, arith}
use Rattle.std.specs.Prelude.{nat_le, nat_lt}
use Rattle.std.specs.List.{find}
use Rattle.std.proofs.lemmas.Bool.Decides.{nat_tests}
use Rattle.pc_types.specs.declared.limits.TheConstants.{MOST_FILE_ENTRIES}
use Rattle.pc_model.specs.Files.{File, numbers_to}
use Rattle.pc_model.specs.History.{History, log_of}
use Rattle.pc_model.specs.LaidFiles.{gap_above, greatest}
use Rattle.pc_model.specs.Log.{state_at}
use Rattle.pc_model.specs.Maps.{len}
use Rattle.pc_model.specs.Numbers.{is_one_of, same_number}
use Rattle.pc_model.specs.Points.{content, laid}
use Rattle.pc_model.specs.Replies.{Setting, IsLegalHistory}
use Rattle.pc_model.specs.Sets as set
use Rattle.pc_model.specs.Sets.{Set, number_order}
use Rattle.pc_model.specs.Standing.{IsOfItsPoints, PrecedesNext}
use Rattle.pc_model.proofs.ContentLaws.{contains-items, laid_content_from, one_number, one_of_numbers}
use Rattle.pc_model.proofs.LegalEffectLaws.{legal_has_legal_effects}
use Rattle.pc_model.proofs.ShelfFileLaws.{is_ordered, triples_is}
use Rattle.pc_bases.proofs.GapLaws.{greatest_bound}
use Rattle.pc_outcomes.proofs.FewWriteLaws.{commits_within}
use Rattle.pc_model.proofs.LogLimits.{log_within}
use Rattle.pc_outcomes.proofs.RoomLaws.{state_within}
use Rattle.pc_outcomes.proofs.WrittenCounts.{content_within, token_writes_none}

-- some point of a set that isn't empty
some_point : (points : Set number_order) → ¬ (set.items points ≡ []) → (n : ℕ) × (set.contains points n ≡ true)
some_point points some = by (set.items points) refl
  where
    by : (items : List ℕ) → set.items points ≡ items → (n : ℕ) × (set.contains points n ≡ true)
    by [] is = absurd (some is)
    by (n ∷ items) is =
        let first : is_one_of n (n ∷ items) ≡ true = grind (arith, nat_tests) in
        (n, contains-items points n ∙ ap (is_one_of n) is ∙ first)

-- if none of some numbers is found, the test fails at each
none_found : (test : ℕ → Bool) (xs : List ℕ) → find test xs ≡ None → (n : ℕ) → is_one_of n xs ≡ true → test n ≡ false
none_found test [] none n there = absurd (let bad : false ≡ true = there in cc)
none_found test (x ∷ xs) none n there = by (test x) (same_number n x) refl refl none there (none_found test xs)
  where
    by : (a b : Bool) → test x ≡ a → same_number n x ≡ b → cond a (Some x) (find test xs) ≡ None → (b || is_one_of n xs) ≡ true → (find test xs ≡ None → (n : ℕ) → is_one_of n xs ≡ true → test n ≡ false) → test n ≡ false
    by true b at same none there rest = cc (none)
    by false true at same none there rest = ap test (one_number n x same) ∙ at
    by false false at same none there rest = rest none n there

is_true : (b : Bool) → not b ≡ false → b ≡ true
is_true true is = refl
is_true false is = absurd (let bad : true ≡ false = is in cc)

-- if there is no gap, each point up to the greatest is there
no_gap : (points : Set number_order) → gap_above 0 points ≡ None → (n : ℕ) → 1 ≤ n → n ≤ greatest points → set.contains points n ≡ true
no_gap points none n low high = is_true (set.contains points n) (none_found (λ p. not (set.contains points p)) (numbers_to (greatest points)) none n (one_of_numbers (greatest points) n ∙ inside))
  where
    inside : (nat_lt 0 n && nat_le n (greatest points)) ≡ true
    inside = grind (arith, nat_tests, low, high)

module _ (st : Setting) (h : History) (legal : IsLegalHistory st h) (file : File) (of : IsOfItsPoints st.run st.base (log_of h) file) where
  triples : file.triples ≡ content st.base (log_of h) (set.items file.points)
  triples = triples_is st.run st.base (log_of h) file of

  -- the file has no more entries than a file may have
  pub file_within : len file.triples ≤ MOST_FILE_ENTRIES
  file_within =
      let point = some_point file.points of.covers_some in
      let same = ap len triples in
      let few = content_within st.base (log_of h) (set.items file.points) in
      let keys = token_writes_none point.0 [] (log_of h) (commits_within st h legal) (of.has_tokens point.0 point.1) in
      let short = log_within st h legal in
      omega (arith, same, few, keys, short)

  -- without a gap it makes the base the state of its greatest point
  laid_state : gap_above 0 file.points ≡ None → laid st.base 0 file.triples ≡ state_at st.base (log_of h) (greatest file.points)
  laid_state none = ap (laid st.base 0) triples ∙ laid_content_from st.base (log_of h) 0 (greatest file.points) (set.items file.points) (omega arith) in_order most all
    where
      all : (p : ℕ) → 0 < p → p ≤ greatest file.points → is_one_of p (set.items file.points) ≡ true
      all p low high = sym (contains-items file.points p) ∙ no_gap file.points none p (omega (arith, low)) high

      most : (p : ℕ) → is_one_of p (set.items file.points) ≡ true → p ≤ greatest file.points
      most p there = greatest_bound file.points p (contains-items file.points p ∙ there)

      in_order : (p : ℕ) → p < greatest file.points → PrecedesNext p (log_of h)
      in_order p below = (is_ordered st h (legal_has_legal_effects st h legal)).in_order p (of.has_tokens (p + 1) (no_gap file.points none (p + 1) (omega arith) (omega (arith, below))))

  -- which has no more pairs than there is room for
  pub laid_within : len st.base ≤ st.capacity → gap_above 0 file.points ≡ None → len (laid st.base 0 file.triples) ≤ st.capacity
  laid_within few none = let same = ap len (laid_state none) in let less = state_within st h (greatest file.points) few legal in omega (arith, same, less)

-- Why nothing is reported of files that a legal history leaves.
use Rattle.std.proofs.Common.{◌≡◌, ◌⊎◌, inl, inr, ℕ, zero, suc, ◌≤◌, ◌<◌, eqb, not, Bool, true, false, cond, List, [], ◌∷◌, ◌++◌, Option, Some, None, Err, All, drop, refl, ap, sym, subst, ◌∙◌, arith}
use Rattle.std.specs.Prelude.{MatchBool, Result, nat_lt}
use Rattle.std.specs.List.{find}
use Rattle.std.proofs.lemmas.Bool.Decides.{nat_tests}
use Rattle.std.proofs.lemmas.Bool.{ltb-true, ltb-false}
use Rattle.std.proofs.lemmas.List.Elements.{All-nil, All-cons, All-append, All-contains, All-drop, All-head, All-tail}
use Rattle.pc_types.specs.declared.Entry.{Entry}
use Rattle.pc_types.specs.declared.Refusal.{Refusal}
use Rattle.pc_types.specs.declared.Refusal.TheVariants.{OutOfMemory, OtherRun, Conflict, Gap, Full}
use Rattle.pc_types.specs.declared.limits.TheConstants.{MOST_FILE_ENTRIES}
use Rattle.pc_model.specs.Database.{Database}
use Rattle.pc_model.specs.Files.{BaseFile, File, numbers_to}
use Rattle.pc_model.specs.History.{History, log_of}
use Rattle.pc_model.specs.LaidFiles.{gap_above, greatest}
use Rattle.pc_model.specs.Maps.{len}
use Rattle.pc_model.specs.Points.{laid}
use Rattle.pc_model.specs.Replies.{Setting, IsLegalHistory}
use Rattle.pc_model.specs.Sets as set
use Rattle.pc_model.specs.Sets.{Set, number_order}
use Rattle.pc_model.specs.Standing.{IsOfItsPoints}
use Rattle.pc_model.proofs.ShelfFileLaws.{joined_of_points}
use Rattle.pc_merge.specs.Folds.{folded, has_other_run, IsFoldCause, Folds}
use Rattle.pc_part.specs.Joins.{first_cause}
use Rattle.pc_bases.specs.Layings.{gap_causes}
use Rattle.pc_bases.proofs.GapLaws.{greatest_reached}
use Rattle.pc_collapse.specs.Laws.{FilesFoldWell, IsOfAllPoints}
use Rattle.pc_outcomes.specs.Leaving.{AreLeftAfter, Folded, IsUnfolded, IsUnlaid, IsUntoldAfter, has_point}
use Rattle.pc_outcomes.proofs.LegacyLaws.{of_all}
use Rattle.pc_outcomes.proofs.SmallFiles.{file_within, laid_within}

-- what the first of some numbers is that does
found : (test : ℕ → Bool) (P : ℕ → Type 0) (xs : List ℕ) (x : ℕ) → All P xs → find test xs ≡ Some x → (test x ≡ true) × P x
found test P [] x all is = cc
found test P (y ∷ ys) x all is = by (test y) refl is (λ at. found test P ys x (All-tail P y ys all) at)
  where
    by : (b : Bool) → test y ≡ b → cond b (Some y) (find test ys) ≡ Some x → (find test ys ≡ Some x → (test x ≡ true) × P x) → (test x ≡ true) × P x
    by true e at later = let same : y ≡ x = cc (at) in (subst (λ z. test z ≡ true) same e, subst P same (All-head P y ys all))
    by false e at later = later at

abbrev IsUpTo : ℕ → ℕ → Type 0
IsUpTo n p = (1 ≤ p) × (p ≤ n)

in_numbers : (n : ℕ) → All (IsUpTo n) (numbers_to n)
in_numbers zero = All-nil (IsUpTo zero)
in_numbers (suc n) =
    let before = in_numbers n in
    All-append (IsUpTo (suc n)) (numbers_to n) (suc n ∷ []) (λ k d low. let one = before k d low in (one.0, omega (arith, one.1)))
    (All-cons (IsUpTo (suc n)) (suc n) [] (omega arith, omega arith) (All-nil (IsUpTo (suc n))))

is_false : (b : Bool) → not b ≡ true → b ≡ false
is_false true is = cc
is_false false is = refl

-- a gap is a point that is missing
gap_lacks : (points : Set number_order) (p : ℕ) → gap_above 0 points ≡ Some p → (1 ≤ p) × (set.contains points p ≡ false) × ((later : ℕ) × (p ≤ later) × (set.contains points later ≡ true))
gap_lacks points p is = (first.1.0, is_false (set.contains points p) first.0, by (greatest_reached points))
  where
    first : (not (set.contains points p) ≡ true) × IsUpTo (greatest points) p
    first = found (λ q. not (set.contains points q)) (IsUpTo (greatest points)) (numbers_to (greatest points)) p (in_numbers (greatest points)) is

    by : (greatest points ≡ 0) ⊎ (set.contains points (greatest points) ≡ true) → (later : ℕ) × (p ≤ later) × (set.contains points later ≡ true)
    by (inl none) = let low = first.1.0 in let high = first.1.1 in absurd (omega (arith, none, low, high))
    by (inr there) = (greatest points, first.1.1, there)

-- the causes that are left of a file of the run
left_causes : (other : Bool) (gap : Option ℕ) (full : Bool) (given : Refusal) → other ≡ false → first_cause ((other, OtherRun) ∷ gap_causes gap ++ (full, Full) ∷ []) ≡ Some given
    → ((given ≡ Full) × (gap ≡ None) × (full ≡ true)) ⊎ ((p : ℕ) × (gap ≡ Some p) × (given ≡ Gap p))
left_causes true gap full given own is = cc (own)
left_causes false None true given own is = let same : given ≡ Full = cc (is) in inl (same, refl, refl)
left_causes false None false given own is = cc (is)
left_causes false (Some p) full given own is = let same : given ≡ Gap p = cc (is) in inr (p, refl, same)

-- why a fold is full
full_fold : (first : File) (others : List File) (given : Refusal) → given ≡ Full → Folds (first ∷ others) (Err given) → MOST_FILE_ENTRIES < len (folded first others).triples
full_fold first others given full folds = by (has_other_run first others) folds
  where
    cause : IsFoldCause first others given → MOST_FILE_ENTRIES < len (folded first others).triples
    cause (inl memory) = cc (memory, full)
    cause (inr (inl clash)) = let named : given ≡ Conflict = clash.0 in cc (named, full)
    cause (inr (inr many)) = many.1

    by : (b : Bool) → MatchBool b (let r : Result File Refusal = Err given in r ≡ Err OtherRun) (IsFoldCause first others given) → MOST_FILE_ENTRIES < len (folded first others).triples
    by true is = cc (is, full)
    by false is = cause is

-- the fold of files of a log is one too
fold_of : (run : ℕ) (base : Database) (log : List Entry) (first : File) (others : List File) → All (IsOfItsPoints run base log) (first ∷ others) → IsOfItsPoints run base log (folded first others)
fold_of run base log first [] all = All-head (IsOfItsPoints run base log) first [] all
fold_of run base log first (next ∷ others) all =
    joined_of_points run base log first (folded next others) (All-head (IsOfItsPoints run base log) first (next ∷ others) all) (fold_of run base log next others (All-tail (IsOfItsPoints run base log) first (next ∷ others) all))

module _ (well : FilesFoldWell) (st : Setting) (h : History) (legal : IsLegalHistory st h) where
  -- the base of the start
  abbrev begun : BaseFile
  begun = record { run = st.run; point = 0; pairs = st.base }

  -- each is the file of its points
  abbrev Worth : List File → Type 0
  Worth files = All (IsOfItsPoints st.run st.base (log_of h)) files

  unfolded : (some : List File) (given : Refusal) → Worth some → IsUnfolded some given → IsUntoldAfter st some given
  unfolded [] given parts (there, folds) = absurd (there refl)
  unfolded (first ∷ others) given parts (there, folds) = by (well st.run st.base (log_of h) first others (Err given) (λ f. All-contains (IsOfItsPoints st.run st.base (log_of h)) (first ∷ others) f parts) folds)
    where
      by : (given ≡ OutOfMemory) ⊎ (given ≡ Full) → IsUntoldAfter st (first ∷ others) given
      by (inl is) = subst (IsUntoldAfter st (first ∷ others)) (sym is) tt
      by (inr is) =
          let many = full_fold first others given is folds in
          let few = file_within st h legal (folded first others) (fold_of st.run st.base (log_of h) first others parts) in
          absurd (omega (arith, many, few))

  unlaid : (some : List File) (file : Option File) (given : Refusal) → Worth some → Folded some file → IsUnlaid begun file given → IsUntoldAfter st some given
  unlaid some None given parts fold is = absurd is
  unlaid [] (Some file) given parts fold is = cc (fold)
  unlaid (first ∷ others) (Some file) given parts fold is =
      by (left_causes (not (eqb st.run file.run)) (gap_above 0 file.points) (nat_lt MOST_FILE_ENTRIES (len (laid st.base 0 file.triples))) given own is)
    where
      of : IsOfAllPoints st.run st.base (log_of h) (first ∷ others) file
      of = of_all well begun (log_of h) (first ∷ others) (Some file) parts fold

      run : file.run ≡ st.run
      run = ap (λ (f : File). f.run) of.of_its_points.is

      own : not (eqb st.run file.run) ≡ false
      own = let same : eqb st.run file.run ≡ true = grind (arith, nat_tests, run) in ap not same

      many : gap_above 0 file.points ≡ None → nat_lt MOST_FILE_ENTRIES (len (laid st.base 0 file.triples)) ≡ true → (st.capacity < len st.base) ⊎ (MOST_FILE_ENTRIES < st.capacity)
      many none full = room (nat_lt st.capacity (len st.base)) refl
        where
          room : (b : Bool) → nat_lt st.capacity (len st.base) ≡ b → (st.capacity < len st.base) ⊎ (MOST_FILE_ENTRIES < st.capacity)
          room true less = inl (ltb-true st.capacity (len st.base) less)
          room false less =
              let few = laid_within st h legal file of.of_its_points (ltb-false st.capacity (len st.base) less) none in
              let above = ltb-true MOST_FILE_ENTRIES (len (laid st.base 0 file.triples)) full in
              inr (omega (arith, few, above))

      by : ((given ≡ Full) × (gap_above 0 file.points ≡ None) × (nat_lt MOST_FILE_ENTRIES (len (laid st.base 0 file.triples)) ≡ true)) ⊎ ((p : ℕ) × (gap_above 0 file.points ≡ Some p) × (given ≡ Gap p)) → IsUntoldAfter st (first ∷ others) given
      by (inl full) = subst (IsUntoldAfter st (first ∷ others)) (sym full.0) (λ none. cc (none), many full.1 full.2)
      by (inr (p, gap, at)) =
          let lacks = gap_lacks file.points p gap in
          let missing : has_point (first ∷ others) p ≡ false = sym (of.points_of_all p) ∙ lacks.1 in
          let later : has_point (first ∷ others) lacks.2.0 ≡ true = sym (of.points_of_all lacks.2.0) ∙ lacks.2.2 in
          subst (IsUntoldAfter st (first ∷ others)) (sym at) (lacks.0, missing, (lacks.2.0, lacks.2.1, later))

module _ (well : FilesFoldWell) (st : Setting) (history : History) (base : BaseFile) (log : List Entry) (files : List File) (after : AreLeftAfter st history base log files) (n : ℕ) (given : Refusal) where
  parts : All (IsOfItsPoints st.run st.base (log_of history)) (drop n files)
  parts = All-drop (IsOfItsPoints st.run st.base (log_of history)) n files (subst (λ (l : List Entry). All (IsOfItsPoints st.run st.base l) files) after.log_is after.worth)

  pub memory_untold : given ≡ OutOfMemory → IsUntoldAfter st (drop n files) given
  memory_untold is = subst (IsUntoldAfter st (drop n files)) (sym is) tt

  -- the files have no fold
  pub not_folded : (given ≡ OutOfMemory) ⊎ IsUnfolded (drop n files) given → IsUntoldAfter st (drop n files) given
  not_folded (inl memory) = memory_untold memory
  not_folded (inr cause) = unfolded well st history after.legal (drop n files) given parts cause

  -- or it can't be applied to the base
  pub not_laid : (file : Option File) → Folded (drop n files) file → (given ≡ OutOfMemory) ⊎ IsUnlaid base file given → IsUntoldAfter st (drop n files) given
  not_laid file fold (inl memory) = memory_untold memory
  not_laid file fold (inr cause) = unlaid well st history after.legal (drop n files) file given parts fold (subst (λ (b : BaseFile). IsUnlaid b file given) after.start cause)

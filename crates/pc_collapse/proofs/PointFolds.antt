-- Files of a run fold to the file of all their points, and to one that is made of the run's shelf.
use Rattle.std.proofs.Common.{◌≡◌, ℕ, eqb, not, ◌||◌, Bool, true, false, List, [], ◌∷◌, Result, Ok, Err, ◌⊎◌, inl, inr, refl, sym, ap, subst, ◌∙◌, arith}
use Rattle.std.specs.Prelude.{MatchBool, MatchResult, IfOk}
use Rattle.std.specs.List.{Contains, list_any}
use Rattle.std.proofs.lemmas.Bool.Decides.{nat_tests}
use Rattle.std.proofs.lemmas.List.Elements.{Contains-append_right}
use Rattle.pc_types.specs.declared.Entry.{Entry}
use Rattle.pc_types.specs.declared.Refusal.{Refusal}
use Rattle.pc_types.specs.declared.Refusal.TheVariants.{OutOfMemory, OtherRun, Full}
use Rattle.pc_model.specs.Database.{Database}
use Rattle.pc_model.specs.Sets as set
use Rattle.pc_model.specs.History.{History}
use Rattle.pc_model.specs.Files.{File, shelf}
use Rattle.pc_model.specs.Replies.{Setting}
use Rattle.pc_model.specs.Standing.{IsOfItsPoints, HasLegalEffects}
use Rattle.pc_model.specs.Headline.{TakesPointValue, IsMade}
use Rattle.pc_model.specs.Headline.IsMade.{Joined}
use Rattle.pc_model.proofs.ContentLaws.{contains-union}
use Rattle.pc_model.proofs.ShelfFileLaws.{join_well, joined_of_points, run_is, made_join_well, headline}
use Rattle.pc_merge.specs.Folds.{folded, has_other_run, IsFold, IsFoldCause, Folds}
use Rattle.pc_collapse.specs.Laws.{IsOfAllPoints, IsStateOfItsPoints, FilesFoldWell, FoldsAreStates}

-- what holds of all files holds of the first, and of the others
module _ (P : File → Type 0) (f : File) (fs : List File) (all : (g : File) → Contains (f ∷ fs) g → P g) where
  of_first : P f
  of_first = all f (0, omega arith, refl)

  of_others : (g : File) → Contains fs g → P g
  of_others g there = all g (Contains-append_right (f ∷ []) fs g there)

one_run : (run : ℕ) (f : File) (fs : List File) → ((g : File) → Contains (f ∷ fs) g → g.run ≡ run) → has_other_run f fs ≡ false
one_run run f fs all = others fs (of_others (λ g. g.run ≡ run) f fs all)
  where
    others : (gs : List File) → ((g : File) → Contains gs g → g.run ≡ run) → has_other_run f gs ≡ false
    others [] is = refl
    others (g ∷ gs) is =
        let same : eqb g.run f.run ≡ true = grind (arith, nat_tests, of_first (λ g. g.run ≡ run) g gs is, of_first (λ g. g.run ≡ run) f fs all) in
        ap (λ t. not t || has_other_run f gs) same ∙ others gs (of_others (λ g. g.run ≡ run) g gs is)

-- the fold of files of one run
runs_fold : (f : File) (fs : List File) (r : Result File Refusal) → has_other_run f fs ≡ false → Folds (f ∷ fs) r → MatchResult r (IsFold f fs) (IsFoldCause f fs)
runs_fold f fs r one folds = subst (λ t. MatchBool t (r ≡ Err OtherRun) (MatchResult r (IsFold f fs) (IsFoldCause f fs))) one folds

module _ (run : ℕ) (base : Database) (log : List Entry) where
  abbrev Of : File → Type 0
  Of f = IsOfItsPoints run base log f

  fold_of_points : (f : File) (fs : List File) → ((g : File) → Contains (f ∷ fs) g → Of g) → Of (folded f fs)
  fold_of_points f [] all = of_first Of f [] all
  fold_of_points f (g ∷ fs) all = joined_of_points run base log f (folded g fs) (of_first Of f (g ∷ fs) all) (fold_of_points g fs (of_others Of f (g ∷ fs) all))

  or_false : (t : Bool) → t ≡ (t || false)
  or_false true = refl
  or_false false = refl

  fold_points : (f : File) (fs : List File) (p : ℕ) → set.contains (folded f fs).points p ≡ list_any (λ (g : File). set.contains g.points p) (f ∷ fs)
  fold_points f [] p = or_false (set.contains f.points p)
  fold_points f (g ∷ fs) p = contains-union f.points (folded g fs).points p ∙ ap (λ t. set.contains f.points p || t) (fold_points g fs p)

  fold_well : (f : File) (fs : List File) (r : Result File Refusal) → ((g : File) → Contains (f ∷ fs) g → Of g) → MatchResult r (IsFold f fs) (IsFoldCause f fs) →
      MatchResult r (IsOfAllPoints run base log (f ∷ fs)) (λ why. (why ≡ OutOfMemory) ⊎ (why ≡ Full))
  fold_well f fs (Ok file) all fold = subst (IsOfAllPoints run base log (f ∷ fs)) (sym fold.is) (record { of_its_points = fold_of_points f fs all; points_of_all = fold_points f fs })
  fold_well f fs (Err why) all (inl memory) = inl memory
  fold_well f fs (Err why) all (inr (inl c)) = absurd (c.1 (λ a b in_a in_b. (join_well run base log a b (all a in_a) (all b in_b)).no_conflict))
  fold_well f fs (Err why) all (inr (inr c)) = inr c.0

pub files_fold_well : FilesFoldWell
files_fold_well run base log f fs r all folds = fold_well run base log f fs r all (runs_fold f fs r (one_run run f fs (λ g there. run_is run base log g (all g there))) folds)

module _ (st : Setting) (h : History) (legal : HasLegalEffects st h) (values : TakesPointValue st.base h) where
  abbrev Made : File → Type 0
  Made f = IsMade (shelf st.run h) f

  fold_made : (f : File) (fs : List File) → ((g : File) → Contains (f ∷ fs) g → Made g) → Made (folded f fs)
  fold_made f [] all = of_first Made f [] all
  fold_made f (g ∷ fs) all = Joined f (folded g fs) (of_first Made f (g ∷ fs) all) (fold_made g fs (of_others Made f (g ∷ fs) all))

  made_state : (f : File) → Made f → IsStateOfItsPoints st h f
  made_state f made = let all = headline st h legal values in record {
    is_made = made;
    is_only = λ other it same. all.one_file other f it made same;
    is_the_state = λ n covers. all.is_the_state f n made covers;
  }

  fold_state : (f : File) (fs : List File) (r : Result File Refusal) → ((g : File) → Contains (f ∷ fs) g → Made g) → MatchResult r (IsFold f fs) (IsFoldCause f fs) → IfOk r (IsStateOfItsPoints st h)
  fold_state f fs (Ok file) all fold = subst (IsStateOfItsPoints st h) (sym fold.is) (made_state (folded f fs) (fold_made f fs all))
  fold_state f fs (Err why) all cause = tt

pub folds_are_states : FoldsAreStates
folds_are_states st h f fs r legal values all folds =
    fold_state st h legal values f fs r all (runs_fold f fs r (one_run f.run f fs (λ g there. (made_join_well st h legal values g f (all g there) (of_first (IsMade (shelf st.run h)) f fs all)).one_run)) folds)

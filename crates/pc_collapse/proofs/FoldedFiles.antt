-- A file that represents all the files is their fold; and why they may not be folded.
use Rattle.std.proofs.Common.{◌≡◌, ℕ, ◌≤◌, ◌<◌, ◌+◌, nat_lt, eqb, ◌||◌, not, Bool, true, false, cond, List, [], ◌∷◌, ◌++◌, Some, None, Option, Result, Ok, Err, is_some, inl, inr, ⊎_elim, refl, sym, ap, subst, ◌∙◌, arith}
use Rattle.std.specs.Prelude.{MatchBool, MatchResult, IfOk, IsErr, IsErrAnd}
use Rattle.std.proofs.lemmas.Bool.Decides.{nat_tests}
use Rattle.std.proofs.lemmas.Bool.{ltb-true, ltb-false}
use Rattle.pc_types.specs.declared.Refusal.{Refusal}
use Rattle.pc_types.specs.declared.Refusal.TheVariants.{OutOfMemory, OtherRun, Conflict, Full}
use Rattle.pc_types.specs.declared.limits.TheConstants.{MOST_FILE_ENTRIES}
use Rattle.pc_model.specs.Maps.{get, len}
use Rattle.pc_model.specs.Maps as map_of
use Rattle.pc_model.specs.Sets as set
use Rattle.pc_model.specs.Points.{AtPoint, Triples, later, joined}
use Rattle.pc_model.specs.Files.{File, joined_file, conflict}
use Rattle.pc_model.specs.Replies.{join_causes}
use Rattle.pc_model.proofs.MapLaws.{same_map}
use Rattle.pc_model.proofs.SetLaws.{same_set}
use Rattle.pc_model.proofs.ContentLaws.{contains-union}
use Rattle.pc_model.proofs.JoinLaws.{get-joined}
use Rattle.pc_model.proofs.TripleCounts.{len_sub}
use Rattle.pc_part.specs.Joins.{first_cause, IsRefusedBy}
use Rattle.pc_merge.specs.Given.{IsUnderAt}
use Rattle.pc_merge.specs.Folds.{folded, has_other_run, NoneConflict, IsFold, IsFoldCause, Folds}
use Rattle.pc_collapse.specs.Worth.{Fact, FactHolds, Among, AreFactsGiven, AreWorth, AreOfOneRun, IsCauseFor, JoinsToOne}
use Rattle.pc_collapse.specs.Worth.Fact.{HasTriple, HasPoint, HasRun}
use Rattle.pc_collapse.proofs.FactLists.{among_file, file_among, sound_trans, worth_same, worth_trans, worth_append}
use Rattle.pc_collapse.proofs.JoinedFacts.{joined_from, join_worth, or_left, or_right}
use Rattle.pc_collapse.proofs.KeyConflicts.{one_triple, no_conflict}

-- ---- what folds have

pub folded_from : (f : File) (fs : List File) (w : Fact) → FactHolds w (folded f fs) → Among w (f ∷ fs)
folded_from f [] w h = inl h
folded_from f (g ∷ fs) w h = ⊎_elim (λ q. inl q) (λ p. inr (folded_from g fs w p)) (joined_from f (folded g fs) w h)

-- the key has something, not older than this
abbrev Reaches : AtPoint → Option AtPoint → Type 0
Reaches a None = ⊥
Reaches a (Some b) = a.point ≤ b.point

reaches_left : (a : AtPoint) (y : Option AtPoint) → Reaches a (later (Some a) y)
reaches_left a None = omega arith
reaches_left a (Some b) = by (nat_lt a.point b.point) refl
  where
    by : (t : Bool) → nat_lt a.point b.point ≡ t → Reaches a (Some (cond t b a))
    by true is = let l = ltb-true a.point b.point is in omega (arith, l)
    by false is = omega arith

reaches_right : (x y : Option AtPoint) (b : AtPoint) → Reaches b y → Reaches b (later x y)
reaches_right x None b r = absurd r
reaches_right None (Some c) b r = r
reaches_right (Some a) (Some c) b r = by (nat_lt a.point c.point) refl
  where
    by : (t : Bool) → nat_lt a.point c.point ≡ t → Reaches b (Some (cond t c a))
    by true is = r
    by false is = let l = ltb-false a.point c.point is in omega (arith, l, r)

folded_reaches : (f : File) (fs : List File) (key : List ℕ) (x : AtPoint) → Among (HasTriple key x) (f ∷ fs) → Reaches x (get (folded f fs).triples key)
folded_reaches f [] key x h = ⊎_elim (λ (i : get f.triples key ≡ Some x). subst (Reaches x) (sym i) (omega arith)) (λ e. absurd e) h
folded_reaches f (g ∷ fs) key x h = subst (Reaches x) (sym (get-joined f.triples (folded g fs).triples key)) (⊎_elim
    (λ (i : get f.triples key ≡ Some x). subst (λ (y : Option AtPoint). Reaches x (later y (get (folded g fs).triples key))) (sym i) (reaches_left x (get (folded g fs).triples key)))
    (λ r. reaches_right (get f.triples key) (get (folded g fs).triples key) x (folded_reaches g fs key x r)) h)

folded_point : (f : File) (fs : List File) (p : ℕ) → Among (HasPoint p) (f ∷ fs) → set.contains (folded f fs).points p ≡ true
folded_point f [] p h = ⊎_elim (λ i. i) (λ e. absurd e) h
folded_point f (g ∷ fs) p h = contains-union f.points (folded g fs).points p ∙ ⊎_elim (λ i. or_left (set.contains f.points p) (set.contains (folded g fs).points p) i) (λ r. or_right (set.contains f.points p) (set.contains (folded g fs).points p) (folded_point g fs p r)) h

reached : (x : AtPoint) (y : Option AtPoint) → Reaches x y → is_some y ≡ true
reached x None r = absurd r
reached x (Some t) r = refl

-- ---- causes

module _ (f : File) (fs : List File) where
  pub full_by : (m : Triples) → ((key : List ℕ) (x : AtPoint) → get m key ≡ Some x → Among (HasTriple key x) (f ∷ fs)) → MOST_FILE_ENTRIES < len m → MOST_FILE_ENTRIES < len (folded f fs).triples
  full_by m sub above = let less = len_sub m (folded f fs).triples (λ q x e. reached x (get (folded f fs).triples q) (folded_reaches f fs q x (sub q x e))) in omega (arith, less, above)

  same_run : (t u : Bool) → (not t || u) ≡ false → (t ≡ true) × (u ≡ false)
  same_run true u e = (refl, e)
  same_run false u e = cc

  run_is : (gs : List File) → has_other_run f gs ≡ false → (r : ℕ) → Among (HasRun r) gs → r ≡ f.run
  run_is [] one r h = absurd h
  run_is (g ∷ gs) one r h = let parts = same_run (eqb g.run f.run) (has_other_run f gs) one in
      ⊎_elim (λ (i : g.run ≡ r). let test = parts.0 in let same : g.run ≡ f.run = grind (arith, nat_tests, test) in sym i ∙ same) (λ q. run_is gs parts.1 r q) h

  pub given_run : has_other_run f fs ≡ false → (r : ℕ) → Among (HasRun r) (f ∷ fs) → r ≡ f.run
  given_run one r h = ⊎_elim (λ (i : f.run ≡ r). sym i) (λ q. run_is fs one r q) h

  -- two files whose triples are those of files without conflict have none
  apart_by : (a b : File) → AreFactsGiven (f ∷ fs) (a ∷ b ∷ []) → NoneConflict (f ∷ fs) → conflict a.triples b.triples ≡ false
  apart_by a b sound none = no_conflict a.triples b.triples (λ q s t p r.
      let one = among_file (HasTriple q s) (f ∷ fs) (sound (HasTriple q s) (inl p)) in
      let other = among_file (HasTriple q t) (f ∷ fs) (sound (HasTriple q t) (inr (inl r))) in
      one_triple one.0.triples other.0.triples (none one.0 other.0 one.1 other.1) q s t one.2 other.2)

abbrev refused : Refusal → Result File Refusal
refused why = Err why

err_is : (a b : Refusal) → refused a ≡ refused b → a ≡ b
err_is a b same = ap (λ (r : Result File Refusal). MatchResultOr r) same
  where
    MatchResultOr : Result File Refusal → Refusal
    MatchResultOr (Ok file) = a
    MatchResultOr (Err why) = why

-- why two files can't be joined is why the files that they are of may not be folded
pub cause_of : (a b : File) (why : Refusal) → IsRefusedBy (first_cause (join_causes (Some a) (Some b))) (refused why) → IsCauseFor (a ∷ b ∷ []) why
cause_of a b why is given sound f fs given_is one = by (eqb a.run b.run) (conflict a.triples b.triples) (nat_lt MOST_FILE_ENTRIES (len (joined_file a b).triples)) refl refl refl is
  where
    of : AreFactsGiven (f ∷ fs) (a ∷ b ∷ [])
    of = subst (λ (g : List File). AreFactsGiven g (a ∷ b ∷ [])) given_is sound

    same : a.run ≡ b.run
    same = given_run f fs one a.run (of (HasRun a.run) (inl refl)) ∙ sym (given_run f fs one b.run (of (HasRun b.run) (inr (inl refl))))

    by : (s t u : Bool) → eqb a.run b.run ≡ s → conflict a.triples b.triples ≡ t → nat_lt MOST_FILE_ENTRIES (len (joined_file a b).triples) ≡ u
        → IsRefusedBy (cond (not s) (Some OtherRun) (cond t (Some Conflict) (cond u (Some Full) None))) (refused why) → IsFoldCause f fs why
    by false t u p q r h = let yes : eqb a.run b.run ≡ true = grind (arith, nat_tests, same) in let bad : true ≡ false = sym yes ∙ p in absurd cc
    by true true u p q r h = inr (inl (err_is why Conflict h, λ none. let no = apart_by f fs a b of none in let bad : true ≡ false = sym q ∙ no in absurd cc))
    by true false true p q r h = inr (inr (err_is why Full h, full_by f fs (joined a.triples b.triples) (λ key x e. of (HasTriple key x) (⊎_elim (λ i. inl i) (λ i. inr (inl i)) (joined_from a b (HasTriple key x) e))) (ltb-true MOST_FILE_ENTRIES (len (joined_file a b).triples) r)))
    by true false false p q r h = inl h

-- ---- joins

abbrev done : File → Result File Refusal
done file = Ok file

-- a join that was answered is of files of one run without conflict
answered : (a b file : File) → (let r : Result File Refusal = Ok file in IsRefusedBy (first_cause (join_causes (Some a) (Some b))) r) → (a.run ≡ b.run) × (conflict a.triples b.triples ≡ false)
answered a b file = by (eqb a.run b.run) (conflict a.triples b.triples) refl refl
  where
    by : (s t : Bool) → eqb a.run b.run ≡ s → conflict a.triples b.triples ≡ t → IsRefusedBy (cond (not s) (Some OtherRun) (cond t (Some Conflict) (cond (nat_lt MOST_FILE_ENTRIES (len (joined_file a b).triples)) (Some Full) None))) (done file) → (a.run ≡ b.run) × (conflict a.triples b.triples ≡ false)
    by true false p q h = (grind (arith, nat_tests), q)
    by true true p q h = cc
    by false t p q h = cc

-- what `join` answers
pub join_joins : (a b : File) (r : Result File Refusal) → IfOk r (λ file. file ≡ joined_file a b) → IsRefusedBy (first_cause (join_causes (Some a) (Some b))) r → JoinsToOne (a ∷ b ∷ []) r
join_joins a b (Ok file) is due = let well = answered a b file due in subst (λ (x : File). AreWorth (a ∷ b ∷ []) (x ∷ [])) (sym is) (join_worth a b well.0 well.1)
join_joins a b (Err why) is due = cause_of a b why due

-- a cause of some of the files is one of all
pub cause_for : (all some : List File) (why : Refusal) → AreFactsGiven all some → IsCauseFor some why → IsCauseFor all why
cause_for all some why sub cause = λ given sound. cause given (sound_trans given all some sound sub)

pub no_memory : (files : List File) → IsCauseFor files OutOfMemory
no_memory files = λ given sound f fs is one. inl refl

-- some files represent the given ones, and are joined
pub joins_worth : (given files : List File) (r : Result File Refusal) → AreWorth given files → JoinsToOne files r → JoinsToOne given r
joins_worth given files (Ok file) worth joins = worth_trans given files (file ∷ []) worth joins
joins_worth given files (Err why) worth cause = cause_for given files why worth.sound cause

-- ---- one file that represents all

bool_is : (s t : Bool) → (s ≡ true → t ≡ true) → (t ≡ true → s ≡ true) → s ≡ t
bool_is true t p q = sym (p refl)
bool_is false true p q = q refl
bool_is false false p q = refl

module _ (f : File) (fs : List File) (file : File) (one : has_other_run f fs ≡ false) (worth : AreWorth (f ∷ fs) (file ∷ [])) where
  own : (w : Fact) → Among w (file ∷ []) → FactHolds w file
  own w h = ⊎_elim (λ i. i) (λ e. absurd e) h

  of_given : (w : Fact) → FactHolds w file → Among w (f ∷ fs)
  of_given w h = worth.sound w (inl h)

  run_of_folded : (g : File) (gs : List File) → (folded g gs).run ≡ g.run
  run_of_folded g [] = refl
  run_of_folded g (h ∷ gs) = refl

  -- a triple of the greatest point is the file's
  top : (q : List ℕ) (x y : AtPoint) → get (folded f fs).triples q ≡ Some y → Among (HasTriple q x) (f ∷ fs) → y.point ≤ x.point → get file.triples q ≡ Some x
  top q x y is there above = own (HasTriple q x) (worth.whole (HasTriple q x) (λ u a. let r : u.point ≤ y.point = subst (Reaches u) is (folded_reaches f fs q u a) in omega (arith, r, above)) there)

  same_at : (q : List ℕ) → get file.triples q ≡ get (folded f fs).triples q
  same_at q = by (get (folded f fs).triples q) (get file.triples q) refl refl
    where
      by : (x y : Option AtPoint) → get (folded f fs).triples q ≡ x → get file.triples q ≡ y → get file.triples q ≡ get (folded f fs).triples q
      by None None p r = r ∙ sym p
      by None (Some t) p r = absurd (subst (Reaches t) p (folded_reaches f fs q t (of_given (HasTriple q t) r)))
      by (Some x) y p r = top q x x p (folded_from f fs (HasTriple q x) p) (omega arith) ∙ sym p

  points_same : (p : ℕ) → set.contains file.points p ≡ set.contains (folded f fs).points p
  points_same p = bool_is (set.contains file.points p) (set.contains (folded f fs).points p)
      (λ e. folded_point f fs p (of_given (HasPoint p) e))
      (λ e. own (HasPoint p) (worth.whole (HasPoint p) tt (folded_from f fs (HasPoint p) e)))

  run_same : file.run ≡ (folded f fs).run
  run_same = given_run f fs one file.run (of_given (HasRun file.run) refl) ∙ sym (run_of_folded f fs)

  under : (q : List ℕ) (x : Option AtPoint) → ((a : AtPoint) → x ≡ Some a → Among (HasTriple q a) (f ∷ fs)) → IsUnderAt x (get file.triples q)
  under q None there = tt
  under q (Some a) there = by (get (folded f fs).triples q) refl (folded_reaches f fs q a (there a refl))
    where
      by : (y : Option AtPoint) → get (folded f fs).triples q ≡ y → Reaches a y → IsUnderAt (Some a) (get file.triples q)
      by None p r = absurd r
      by (Some x) p r = older (nat_lt a.point x.point) refl
        where
          older : (t : Bool) → nat_lt a.point x.point ≡ t → IsUnderAt (Some a) (get file.triples q)
          older true less = subst (IsUnderAt (Some a)) (sym (same_at q ∙ p)) (inl (ltb-true a.point x.point less))
          older false same = subst (IsUnderAt (Some a)) (sym (top q a x p (there a refl) (let l = ltb-false a.point x.point same in omega (arith, l)))) (inr refl)

  pub worth_fold : IsFold f fs file
  worth_fold = record {
    is = λ i. record { run = run_same i; points = same_set file.points (folded f fs).points points_same i; triples = same_map file.triples (folded f fs).triples same_at i };
    over = λ h there q. under q (get h.triples q) (λ a e. file_among (HasTriple q a) (f ∷ fs) h there e);
  }

-- ---- the clause

folds_by : (f : File) (fs : List File) (r : Result File Refusal) → has_other_run f fs ≡ false → MatchResult r (IsFold f fs) (IsFoldCause f fs) → Folds (f ∷ fs) r
folds_by f fs r one is = subst (λ t. MatchBool t (r ≡ Err OtherRun) (MatchResult r (IsFold f fs) (IsFoldCause f fs))) (sym one) is

-- the join of all files is their fold
pub joins_fold : (files : List File) (r : Result File Refusal) → AreOfOneRun files → JoinsToOne files r → Folds files r
joins_fold [] r one joins = absurd one
joins_fold (f ∷ fs) (Ok file) one joins = folds_by f fs (Ok file) one (worth_fold f fs file one joins)
joins_fold (f ∷ fs) (Err why) one joins = folds_by f fs (Err why) one (joins (f ∷ fs) (λ w h. h) f fs refl one)

-- ---- what calls answer

-- a refusal is handed on
pub handed_on : (files : List File) (why : Refusal) (r : Result File Refusal) → IsErr r × IsErrAnd r (λ e. e ≡ why) → IsCauseFor files why → JoinsToOne files r
handed_on files why (Ok file) is cause = let bad : false ≡ true = is.0 in absurd cc
handed_on files why (Err e) is cause = subst (IsCauseFor files) (sym is.1) cause

-- the same if a call joins only some of the files
pub some_handed_on : (all some : List File) (why : Refusal) (r : Result File Refusal) → AreFactsGiven all some → IsErr r × IsErrAnd r (λ e. e ≡ why) → IsCauseFor some why → JoinsToOne all r
some_handed_on all some why r sub is cause = handed_on all why r is (cause_for all some why sub cause)

-- two halves are joined, and then their joins
pub halves_join : (all front back : List File) (a b : File) (r : Result File Refusal) → all ≡ front ++ back → AreWorth front (a ∷ []) → AreWorth back (b ∷ []) → JoinsToOne (a ∷ b ∷ []) r → JoinsToOne all r
halves_join all front back a b r is left right joins = joins_worth all (a ∷ b ∷ []) r (subst (λ (l : List File). AreWorth l (a ∷ b ∷ [])) (sym is) (worth_append front (a ∷ []) back (b ∷ []) left right)) joins

-- a copy is a join with itself
pub copy_joins : (a b : File) (r : Result File Refusal) → IfOk r (λ file. file ≡ joined_file b b) → IsRefusedBy (first_cause (join_causes (Some b) (Some b))) r → b ≡ a → JoinsToOne (a ∷ []) r
copy_joins a b r is due same = subst (λ (file : File). JoinsToOne (file ∷ []) r) same
    (joins_worth (b ∷ []) (b ∷ b ∷ []) r (worth_same (b ∷ []) (b ∷ b ∷ []) (λ w h. ⊎_elim (λ i. inl i) (λ i. i) h) (λ w h. inr h)) (join_joins b b r is due))

-- The files of the shelf, and those made of them, are the files of their points: the headline.
use Rattle.std.proofs.Common.{◌≡◌, ℕ, ◌+◌, ◌<◌, List, [], ◌∷◌, ◌++◌, append-nil, eqb, ◌||◌, ◌&&◌, refl, sym, ap, subst, ◌∙◌, cond, Bool, true, false, Option, Some, None, ◌⊎◌, inl, inr, arith}
use Rattle.std.specs.Prelude.{slice_get, nat_lt, nat_le, ◌-◌}
use Rattle.std.specs.List.{Contains}
use Rattle.std.proofs.lemmas.Bool.Decides.{nat_tests}
use Rattle.std.proofs.lemmas.List.Elements.{Contains-push_cases, Contains-get_or}
use Rattle.std.proofs.lemmas.Option.{slice_get_within, get_or_from_slice_get}
use Rattle.pc_types.specs.declared.Entry.{Entry}
use Rattle.pc_types.specs.declared.Phase.TheVariants.{Capture}
use Rattle.pc_model.specs.Sets as set
use Rattle.pc_model.specs.Sets.{Set, number_order}
use Rattle.pc_model.specs.Numbers.{is_one_of, same_number}
use Rattle.pc_model.specs.Maps as map_of
use Rattle.pc_model.specs.Database.{Database}
use Rattle.pc_model.specs.Log.{has_token, state_at}
use Rattle.pc_model.specs.History.{History, Effect, effect, log_of, phase_of, point_of, entries_by}
use Rattle.pc_model.specs.History.Effect.{Shelves, Joins}
use Rattle.pc_model.specs.Points.{Triples, touched, taken, part_of, joined, content, laid, triples_at_point}
use Rattle.pc_model.specs.Files.{File, triples_taken, joined_file, file_at, join_of, shelved_by, shelf, conflict, numbers_to}
use Rattle.pc_model.specs.Standing.{file_of_points, HasLegalEffects, IsOfItsPoints, JoinsWell, is_past_token}
use Rattle.pc_model.specs.Replies.{Setting, closed_set}
use Rattle.pc_model.specs.Headline.{TakesPointValue, IsMade, HasHeadline, taken_keys}
use Rattle.pc_model.specs.Headline.IsMade.{Shelved, Joined}
use Rattle.pc_model.proofs.LogPieceLaws.{has_token-append}
use Rattle.std.proofs.lemmas.Cmp.{eq_by_cmp_equiv}
use Rattle.pc_model.proofs.LegalEffectLaws.{effect_fits}
use Rattle.pc_model.specs.LegalEffects.{Fits}
use Rattle.pc_model.proofs.StandingLaws.{has_standing, each_key_once, past_token}
use Rattle.pc_model.proofs.TakenValues.{taken_values, triples_are}
use Rattle.pc_model.proofs.ContentLaws.{one_number, contains-items, contains-union, content-union, IsOrdered, part_stays, content_stays, one_of_numbers, laid_content, no_conflict}

-- the log of a history has its tokens in order
pub is_ordered : (st : Setting) (h : History) → HasLegalEffects st h → IsOrdered (log_of h)
is_ordered st h legal = let s = has_standing st h legal in record { none_zero = s.has 0; in_order = s.in_order }

-- the set of one point
one_point : (p : ℕ) → set.items {o = number_order} (set.insert set.empty p) ≡ p ∷ []
unfolding map_of.insert map_of.empty
one_point p = refl

-- a join with no triples
joined_none : (m : Triples) → joined m map_of.empty ≡ m
unfolding map_of.empty
joined_none m = refl

some_first : {X : Type 0} {x : X} {xs : List X} → x ∷ xs ≡ [] → ⊥
some_first e = cc

no_true : {b : Bool} → b ≡ false → b ≡ true → ⊥
no_true e f = cc

-- a list that isn't empty has something
has_some : (ps : List ℕ) → ¬ (ps ≡ []) → (p : ℕ) × (is_one_of p ps ≡ true)
has_some [] some = absurd (some refl)
has_some (p ∷ ps) some = (p, ap (λ b. b || is_one_of p ps) ((eq_by_cmp_equiv number_order.total).refl p))

file_at_in : (files : List File) (n : ℕ) (f : File) → file_at files n ≡ Some f → Contains files f
file_at_in files n f = by_zero (eqb n 0)
  where
    by_zero : (b : Bool) → cond b None (slice_get files (n - 1)) ≡ Some f → Contains files f
    by_zero true is = cc
    by_zero false is = subst (Contains files) (get_or_from_slice_get files (n - 1) f f is) (Contains-get_or files (n - 1) f (slice_get_within files (n - 1) f is))

module _ (run : ℕ) (base : Database) where
  -- a file stays that of its points while the log grows
  pub file_stays : (log more : List Entry) (f : File) → IsOrdered log → IsOfItsPoints run base log f → IsOfItsPoints run base (log ++ more) f
  file_stays log more f o of = record {
    is = of.is ∙ ap (λ (t : Triples). let g : File = record { run = run; points = f.points; triples = t } in g)
        (sym (content_stays base log more (set.items f.points) o (λ p there. of.has_tokens p (contains-items f.points p ∙ there))));
    covers_some = of.covers_some;
    has_tokens = λ p there. has_token-append p log more ∙ ap (λ b. b || has_token p more) (of.has_tokens p there);
  }

  -- the triples of a file are the content of its points
  pub triples_is : (log : List Entry) (f : File) → IsOfItsPoints run base log f → f.triples ≡ content base log (set.items f.points)
  triples_is log f of = ap (λ g. g.triples) of.is

  pub run_is : (log : List Entry) (f : File) → IsOfItsPoints run base log f → f.run ≡ run
  run_is log f of = ap (λ g. g.run) of.is

  joined_is : (log : List Entry) (a b : File) → IsOfItsPoints run base log a → IsOfItsPoints run base log b → joined_file a b ≡ file_of_points run base log (set.union a.points b.points)
  joined_is log a b of other =
      let r : a.run ≡ run = run_is log a of in
      let t : joined a.triples b.triples ≡ content base log (set.items (set.union a.points b.points)) =
      ap (λ m. joined m b.triples) (triples_is log a of) ∙ ap (joined (content base log (set.items a.points))) (triples_is log b other) ∙ content-union base log a.points b.points in
      λ i. record { run = r i; points = set.union a.points b.points; triples = t i }

  -- the join of two such files is one
  pub joined_of_points : (log : List Entry) (a b : File) → IsOfItsPoints run base log a → IsOfItsPoints run base log b → IsOfItsPoints run base log (joined_file a b)
  joined_of_points log a b of other = record {
    is = joined_is log a b of other;
    covers_some = λ none.
        let first = has_some (set.items a.points) of.covers_some in
        no_true (contains-items (set.union a.points b.points) first.0 ∙ ap (is_one_of first.0) none)
        (contains-union a.points b.points first.0 ∙ ap (λ c. c || set.contains b.points first.0) (contains-items a.points first.0 ∙ first.1));
    has_tokens = λ p there. either p (set.contains a.points p) refl (sym (contains-union a.points b.points p) ∙ there);
  }
    where
      either : (p : ℕ) (c : Bool) → set.contains a.points p ≡ c → (c || set.contains b.points p) ≡ true → has_token p log ≡ true
      either p true is there = of.has_tokens p is
      either p false is there = other.has_tokens p there

  -- and they join well
  pub join_well : (log : List Entry) (a b : File) → IsOfItsPoints run base log a → IsOfItsPoints run base log b → JoinsWell run base log a b
  join_well log a b of other = record {
    one_run = run_is log a of ∙ sym (run_is log b other);
    no_conflict = ap (λ m. conflict m b.triples) (triples_is log a of) ∙ ap (conflict (content base log (set.items a.points))) (triples_is log b other) ∙ no_conflict base log (set.items a.points) (set.items b.points);
    is_of_both = joined_is log a b of other;
  }

  -- and so is each file made of such
  pub made_of_points : (log : List Entry) (files : List File) → ((f : File) → Contains files f → IsOfItsPoints run base log f) → (f : File) → IsMade files f → IsOfItsPoints run base log f
  made_of_points log files all f (Shelved g there) = all g there
  made_of_points log files all f (Joined a b made other) = joined_of_points log a b (made_of_points log files all a made) (made_of_points log files all b other)

-- the shelf after one more effect has files of their points
module _ (st : Setting) (h : History) (legal : HasLegalEffects st h) (values : TakesPointValue st.base h) (before : (f : File) → Contains (shelf st.run h) f → IsOfItsPoints st.run st.base (log_of h) f) where
  -- no file is added
  none_added : (more : List Entry) (f : File) → Contains (shelf st.run h ++ []) f → IsOfItsPoints st.run st.base (log_of h ++ more) f
  none_added more f there = file_stays st.run st.base (log_of h) more f (is_ordered st h legal) (before f (subst (λ files. Contains files f) (append-nil (shelf st.run h)) there))

  -- one is added
  one_added : (more : List Entry) (g : File) → IsOfItsPoints st.run st.base (log_of h ++ more) g → (f : File) → Contains (shelf st.run h ++ g ∷ []) f → IsOfItsPoints st.run st.base (log_of h ++ more) f
  one_added more g of f there = by_case (Contains-push_cases (shelf st.run h) g f there)
    where
      by_case : Contains (shelf st.run h) f ⊎ (g ≡ f) → IsOfItsPoints st.run st.base (log_of h ++ more) f
      by_case (inl earlier) = file_stays st.run st.base (log_of h) more f (is_ordered st h legal) (before f earlier)
      by_case (inr same) = subst (IsOfItsPoints st.run st.base (log_of h ++ more)) same of

  -- the part that is shelved
  abbrev part_file : File
  part_file = record { run = st.run; points = set.insert set.empty (point_of h); triples = triples_taken (point_of h) (taken h) }

  part_is_of_points : (more : List Entry) → phase_of h ≡ Capture → closed_set h ≡ [] → IsOfItsPoints st.run st.base (log_of h ++ more) part_file
  part_is_of_points more at none = record {
    is = ap (λ (t : Triples). let g : File = record { run = st.run; points = set.insert set.empty (point_of h); triples = t } in g) triples;
    covers_some = λ empty. some_first (sym (one_point (point_of h)) ∙ empty);
    has_tokens = λ p there. subst (λ q. has_token q (log_of h ++ more) ≡ true) (sym (is_point p there)) (has_token-append (point_of h) (log_of h) more ∙ ap (λ b. b || has_token (point_of h) more) own);
  }
    where
      own : has_token (point_of h) (log_of h) ≡ true
      own = past_token st h legal (ap is_past_token at)

      all_taken : taken_keys h ≡ touched (point_of h) (log_of h)
      all_taken = sym (append-nil (taken_keys h)) ∙ ap (λ left. taken_keys h ++ left) (sym none) ∙ (each_key_once st h legal).taken_and_left own

      triples : triples_taken (point_of h) (taken h) ≡ content st.base (log_of h ++ more) (set.items {o = number_order} (set.insert set.empty (point_of h)))
      triples = triples_are (point_of h) (state_at st.base (log_of h) (point_of h)) (taken h) (taken_values st h legal values (ap is_past_token at))
          ∙ ap (triples_at_point (point_of h) (state_at st.base (log_of h) (point_of h))) all_taken
          ∙ sym (part_stays st.base (log_of h) more (point_of h) (is_ordered st h legal) own)
          ∙ sym (ap (content st.base (log_of h ++ more)) (one_point (point_of h)) ∙ joined_none (part_of st.base (log_of h ++ more) (point_of h)))

      is_point : (p : ℕ) → set.contains {o = number_order} (set.insert set.empty (point_of h)) p ≡ true → p ≡ point_of h
      is_point p there = one_number p (point_of h) (or_false (same_number p (point_of h)) (sym (contains-items (set.insert set.empty (point_of h)) p ∙ ap (is_one_of p) (one_point (point_of h))) ∙ there))
        where
          or_false : (b : Bool) → (b || false) ≡ true → b ≡ true
          or_false true e = refl
          or_false false e = cc

  joined_added : (o q : Option File) → ((f : File) → o ≡ Some f → Contains (shelf st.run h) f) → ((f : File) → q ≡ Some f → Contains (shelf st.run h) f) →
      (f : File) → Contains (shelf st.run h ++ join_of o q) f → IsOfItsPoints st.run st.base (log_of h ++ []) f
  joined_added (Some a) (Some b) first second f there =
      one_added [] (joined_file a b) (file_stays st.run st.base (log_of h) [] (joined_file a b) (is_ordered st h legal) (joined_of_points st.run st.base (log_of h) a b (before a (first a refl)) (before b (second b refl)))) f there
  joined_added (Some a) None first second f there = none_added [] f there
  joined_added None q first second f there = none_added [] f there

  part_added : phase_of h ≡ Capture → closed_set h ≡ [] → (f : File) → Contains (shelf st.run h ++ shelved_by st.run (Shelves (point_of h)) h (shelf st.run h)) f → IsOfItsPoints st.run st.base (log_of h ++ entries_by (Shelves (point_of h)) h) f
  part_added at none f there = one_added (entries_by (Shelves (point_of h)) h) part_file (part_is_of_points (entries_by (Shelves (point_of h)) h) at none) f there

  shelf_by : (e : Effect) → Fits st h e → (f : File) → Contains (shelf st.run h ++ shelved_by st.run e h (shelf st.run h)) f → IsOfItsPoints st.run st.base (log_of h ++ entries_by e h) f
  shelf_by (Shelves n) fits = rw fits.1 (part_added fits.0 fits.2)
  shelf_by (Joins a b) fits = joined_added (file_at (shelf st.run h) a) (file_at (shelf st.run h) b) (λ g is. file_at_in (shelf st.run h) a g is) (λ g is. file_at_in (shelf st.run h) b g is)
  shelf_by other fits = none_added (entries_by other h)

-- each file of the shelf is that of its points
pub shelf_of_points : (st : Setting) (h : History) → HasLegalEffects st h → TakesPointValue st.base h → (f : File) → Contains (shelf st.run h) f → IsOfItsPoints st.run st.base (log_of h) f
shelf_of_points st [] legal values f there = absurd (let inside = there.1 in omega arith)
shelf_of_points st (step ∷ h) legal values f there =
    shelf_by st h legal.1 values.1 (shelf_of_points st h legal.1 values.1) (effect step) (effect_fits st h step.event step.reply legal.0) f there

module _ (st : Setting) (h : History) (legal : HasLegalEffects st h) (values : TakesPointValue st.base h) where
  -- so is each file made of the shelf
  pub made_is_of_points : (f : File) → IsMade (shelf st.run h) f → IsOfItsPoints st.run st.base (log_of h) f
  made_is_of_points f made = made_of_points st.run st.base (log_of h) (shelf st.run h) (shelf_of_points st h legal values) f made

  -- and any two join well
  pub made_join_well : (a b : File) → IsMade (shelf st.run h) a → IsMade (shelf st.run h) b → JoinsWell st.run st.base (log_of h) a b
  made_join_well a b made other = join_well st.run st.base (log_of h) a b (made_is_of_points a made) (made_is_of_points b other)

  -- the base with a file of the points 1 to n applied to it is the state of n
  laid_is_state : (f : File) (n : ℕ) → IsOfItsPoints st.run st.base (log_of h) f → set.items f.points ≡ numbers_to n → laid st.base 0 f.triples ≡ state_at st.base (log_of h) n
  laid_is_state f n of covers =
      ap (laid st.base 0) (ap (λ g. g.triples) of.is ∙ ap (content st.base (log_of h)) covers)
      ∙ laid_content st.base (log_of h) n (λ p below. (is_ordered st h legal).in_order p (of.has_tokens (p + 1) (contains-items f.points (p + 1) ∙ ap (is_one_of (p + 1)) covers ∙ one_of_numbers n (p + 1) ∙ inside p n below)))
    where
      inside : (p n : ℕ) → p < n → (nat_lt 0 (p + 1) && nat_le (p + 1) n) ≡ true
      inside p n below = grind (arith, nat_tests)

  -- the headline
  pub headline : HasHeadline st h
  headline = record {
    has_tokens = λ f p made there. (made_is_of_points f made).has_tokens p there;
    any_two_join = λ a b made other. let well = made_join_well a b made other in (well.one_run, well.no_conflict);
    one_file = λ a b made other same. (made_is_of_points a made).is ∙ ap (file_of_points st.run st.base (log_of h)) same ∙ sym (made_is_of_points b other).is;
    is_the_state = λ f n made covers. laid_is_state f n (made_is_of_points f made) covers;
  }

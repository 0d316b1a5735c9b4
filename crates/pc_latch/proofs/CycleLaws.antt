-- The phase, the point, the shelf and the phases that were entered depend on the checkpointer's calls alone.
use Rattle.std.proofs.Common.{◌≡◌, ◌==◌, ◌&&◌, ℕ, Bool, true, false, cond, List, [], ◌∷◌, ◌++◌, refl, ap, sym, ◌∙◌, subst}
use Rattle.std.specs.Prelude.{⊤, Option, Some, None}
use Rattle.std.proofs.lemmas.List.{append-nil}
use Rattle.pc_types.specs.declared.Event.{Event}
use Rattle.pc_types.specs.declared.Event.TheVariants as asked
use Rattle.pc_types.specs.declared.Phase.{Phase}
use Rattle.pc_types.specs.declared.Reply.{Reply}
use Rattle.pc_types.specs.declared.Reply.TheVariants as told
use Rattle.pc_types.specs.declared.Step.{Step}
use Rattle.pc_model.specs.History.{History, Effect, effect, effect_of, effect_of_move, effect_of_take, effect_of_done, effect_of_join, phase_by, phase_of, point_by, point_of}
use Rattle.pc_model.specs.History.Effect.{Moves, Takes, Shelves, Joins}
use Rattle.pc_model.specs.Points.{taken_by, taken}
use Rattle.pc_model.specs.Sets as set
use Rattle.pc_model.specs.Files.{File, shelved_by, shelf, triples_taken}
use Rattle.pc_model.specs.Replies.{Setting}
use Rattle.pc_model.specs.Calls.{counts, session_of, is_call_of, calls_of, Extends, HasCallsOf}
use Rattle.pc_model.proofs.BeginningLaws.{calls_of-append}
use Rattle.pc_model.proofs.EffectCases.{begin_case, get_case, write_case, add_case, commit_case, abort_case}
use Rattle.pc_latch.specs.Cycles.{entered_by, phases_entered}

-- an effect that leaves the checkpoint's cycle and the shelf
abbrev IsAside : Effect → Type 0
IsAside (Moves phase point) = ⊥
IsAside (Takes key content) = ⊥
IsAside (Shelves point) = ⊥
IsAside (Joins a b) = ⊥
IsAside other = ⊤

alone : (b : Bool) → (b && (0 == 0)) ≡ false → b ≡ false
alone true e = cc
alone false e = refl

move_aside : (r : Reply) → counts r ≡ false → IsAside (effect_of_move r)
move_aside (told.Phase phase point) is = cc
move_aside other is = tt

take_aside : (r : Reply) → counts r ≡ false → IsAside (effect_of_take r)
take_aside (told.Took key content) is = cc
take_aside other is = tt

done_aside : (r : Reply) → counts r ≡ false → IsAside (effect_of_done r)
done_aside (told.PartDone point file entries) is = cc
done_aside other is = tt

join_aside : (a b : ℕ) (r : Reply) → counts r ≡ false → IsAside (effect_of_join a b r)
join_aside a b (told.File file points entries) is = cc
join_aside a b other is = tt

-- a step that is no call of the checkpointer's has such an effect
step_is_aside : (e : Event) (r : Reply) → (counts r && (session_of e == 0)) ≡ false → IsAside (effect_of e r)
step_is_aside (asked.Begin s) r is = begin_case IsAside tt s r (λ yes. tt)
step_is_aside (asked.Get s key) r is = get_case IsAside tt s key r (λ answer yes. tt) tt tt
step_is_aside (asked.Put s key value) r is = write_case IsAside tt s key (Some value) r (λ yes. tt) tt tt
step_is_aside (asked.Del s key) r is = write_case IsAside tt s key None r (λ yes. tt) tt tt
step_is_aside (asked.Add s key delta) r is = add_case IsAside tt s key delta r (λ sum yes. tt) tt tt
step_is_aside (asked.Commit s) r is = commit_case IsAside tt s r (λ yes. tt)
step_is_aside (asked.Abort s) r is = abort_case IsAside tt s r (λ yes. tt)
step_is_aside asked.StartPoint r is = move_aside r (alone (counts r) is)
step_is_aside asked.Seal r is = move_aside r (alone (counts r) is)
step_is_aside asked.OpenCapture r is = move_aside r (alone (counts r) is)
step_is_aside asked.Take r is = take_aside r (alone (counts r) is)
step_is_aside asked.Done r is = done_aside r (alone (counts r) is)
step_is_aside asked.Rest r is = move_aside r (alone (counts r) is)
step_is_aside (asked.Join a b) r is = join_aside a b r (alone (counts r) is)

phase_aside : (e : Effect) (p : Phase) → IsAside e → phase_by e p ≡ p
phase_aside (Moves phase point) p is = absurd is
phase_aside (Shelves point) p is = absurd is
phase_aside other p is = refl

point_aside : (e : Effect) (n : ℕ) → IsAside e → point_by e n ≡ n
point_aside (Moves phase point) n is = absurd is
point_aside (Shelves point) n is = absurd is
point_aside other n is = refl

entered_aside : (e : Effect) → IsAside e → entered_by e ≡ []
entered_aside (Moves phase point) is = absurd is
entered_aside (Shelves point) is = absurd is
entered_aside other is = refl

taken_aside : (e : Effect) (ts : List (List ℕ × Option (List ℕ))) → IsAside e → taken_by e ts ≡ ts
taken_aside (Moves phase point) ts is = absurd is
taken_aside (Takes key content) ts is = absurd is
taken_aside other ts is = refl

shelved_aside : (run : ℕ) (e : Effect) (h : History) (files : List File) → IsAside e → shelved_by run e h files ≡ []
shelved_aside run (Shelves point) h files is = absurd is
shelved_aside run (Joins a b) h files is = absurd is
shelved_aside run other h files is = refl

-- a function of the history that such effects leave unchanged depends on the checkpointer's calls alone
of_own : {A : Type 0} (f : History → A) → ((c : Step) (h k : History) → f h ≡ f k → f (c ∷ h) ≡ f (c ∷ k)) → ((c : Step) (h : History) → IsAside (effect c) → f (c ∷ h) ≡ f h) → (h : History) → f (calls_of 0 h) ≡ f h
of_own f on aside [] = refl
of_own f on aside (c ∷ h) = by_case (is_call_of 0 c) refl (of_own f on aside h)
  where
    by_case : (b : Bool) → is_call_of 0 c ≡ b → f (calls_of 0 h) ≡ f h → f (cond b (c ∷ calls_of 0 h) (calls_of 0 h)) ≡ f (c ∷ h)
    by_case true e same = on c (calls_of 0 h) h same
    by_case false e same = same ∙ sym (aside c h (step_is_aside c.event c.reply e))

known : {A : Type 0} (f : History → A) → ((h : History) → f (calls_of 0 h) ≡ f h) → (history seen : History) → HasCallsOf history 0 seen → f history ≡ f seen
known f own history seen has = sym (own history) ∙ (ap f has.1 ∙ own seen)

module _ (history seen : History) (has : HasCallsOf history 0 seen) where
  pub phase_known : phase_of history ≡ phase_of seen
  phase_known = known phase_of (of_own phase_of (λ c h k e. ap (phase_by (effect c)) e) (λ c h is. phase_aside (effect c) (phase_of h) is)) history seen has

  pub point_known : point_of history ≡ point_of seen
  point_known = known point_of (of_own point_of (λ c h k e. ap (point_by (effect c)) e) (λ c h is. point_aside (effect c) (point_of h) is)) history seen has

  pub entered_known : phases_entered history ≡ phases_entered seen
  entered_known =
      known phases_entered
      (of_own phases_entered (λ c h k e. ap (λ l. l ++ entered_by (effect c)) e) (λ c h is. ap (λ l. phases_entered h ++ l) (entered_aside (effect c) is) ∙ append-nil (phases_entered h)))
      history seen has

-- the shelf depends on itself and on the keys that were taken
shelf_on : (run : ℕ) (e : Effect) (h k : History) (files : List File) → taken h ≡ taken k → shelved_by run e h files ≡ shelved_by run e k files
shelf_on run (Shelves point) h k files is = ap (λ ts. record { run = run; points = set.insert set.empty point; triples = triples_taken point ts } ∷ []) is
shelf_on run (Joins a b) h k files is = refl
shelf_on run other h k files is = refl

abbrev Takings : Type 0
Takings = List (List ℕ × Option (List ℕ))

-- the shelf, and the keys that were taken
abbrev shelved : ℕ → History → List File × Takings
shelved run h = (shelf run h, taken h)

shelved_on : (run : ℕ) (c : Step) (h k : History) → shelved run h ≡ shelved run k → shelved run (c ∷ h) ≡ shelved run (c ∷ k)
shelved_on run c h k e =
    let files : shelf run h ≡ shelf run k = ap (λ (y : List File × Takings). y.0) e in
    let ts : taken h ≡ taken k = ap (λ (y : List File × Takings). y.1) e in
    let more : shelf run (c ∷ h) ≡ shelf run (c ∷ k) = ap (λ (l : List File). l ++ shelved_by run (effect c) h l) files ∙ ap (λ (l : List File). shelf run k ++ l) (shelf_on run (effect c) h k (shelf run k) ts) in
    (λ i. (more i, taken_by (effect c) (ts i)))

shelved_aside_too : (run : ℕ) (c : Step) (h : History) → IsAside (effect c) → shelved run (c ∷ h) ≡ shelved run h
shelved_aside_too run c h is =
    let files : shelf run (c ∷ h) ≡ shelf run h = ap (λ (l : List File). shelf run h ++ l) (shelved_aside run (effect c) h (shelf run h) is) ∙ append-nil (shelf run h) in
    (λ i. (files i, taken_aside (effect c) (taken h) is i))

pub shelf_known : (run : ℕ) (history seen : History) → HasCallsOf history 0 seen → shelf run history ≡ shelf run seen
shelf_known run history seen has =
    ap (λ (y : List File × Takings). y.0) (known (shelved run) (of_own (shelved run) (shelved_on run) (shelved_aside_too run)) history seen has)

-- the step just before the checkpointer's call
pub right_before : (st : Setting) (before after : History) (step : Step) → session_of step.event ≡ 0 → Extends st before step after → (middle : History) × (after ≡ step ∷ middle) × HasCallsOf middle 0 before
right_before st before after step own x =
    let between = x.1.0 in
    let none : calls_of 0 between ≡ [] = subst (λ (n : ℕ). calls_of n between ≡ []) own x.1.2 in
    (between ++ before, x.1.1, ((between, refl), calls_of-append 0 between before ∙ ap (λ (l : History). l ++ calls_of 0 before) none))

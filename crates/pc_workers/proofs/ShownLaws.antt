-- The facts that a witness proves of a refusal of the checkpointer.
use Rattle.std.proofs.Common.{◌≡◌, ◌⊎◌, inl, inr, ℕ, ◌+◌, ◌==◌, not, Bool, true, false, cond, List, [], ◌∷◌, ◌++◌, length, append-nil, refl, ap, ◌∙◌, subst}
use Rattle.std.specs.Prelude.{Option, Some, None, MatchOption}
use Rattle.pc_types.specs.Phases.{same_phase}
use Rattle.pc_types.specs.declared.Class.{Class}
use Rattle.pc_types.specs.declared.Class.TheVariants.{Before, During, After}
use Rattle.pc_types.specs.declared.Entry.{Entry}
use Rattle.pc_types.specs.declared.Event.TheVariants as asked
use Rattle.pc_types.specs.declared.Phase.{Phase}
use Rattle.pc_types.specs.declared.Phase.TheVariants.{Rest, Prepare, Resolve, Capture, Complete}
use Rattle.pc_types.specs.declared.Refusal.{Refusal}
use Rattle.pc_types.specs.declared.Refusal.TheVariants as why
use Rattle.pc_types.specs.declared.Reply.{Reply}
use Rattle.pc_types.specs.declared.Reply.TheVariants as told
use Rattle.pc_types.specs.declared.limits.TheConstants.{MOST_FILES, MOST_LOG_ENTRIES, MOST_POINTS}
use Rattle.pc_model.specs.Calls.{step_of, IsAnswered, IsBeginning}
use Rattle.pc_model.specs.Files.{shelf}
use Rattle.pc_model.specs.History.{History, Effect, entries_by, log_of, phase_of, point_of}
use Rattle.pc_model.specs.Points.{taken}
use Rattle.pc_model.specs.Replies.{Setting, IsLegal, IsLegalHistory, TakesFirst, active_in_class, closed_set, first_refusal, is_empty, log_is_full, not_yet, or_else}
use Rattle.pc_model.proofs.EffectLaws.{refused_does_nothing}
use Rattle.pc_latch.specs.Cycles.{next_event, IsTakeCalled}
use Rattle.pc_shared.specs.Advances.{EndsWithAdvance}
use Rattle.pc_workers.specs.Checkpointing.{Shows}

-- LogFull is a reply that is due, or the answer, or a failed allocation
abbrev Told : Option Reply → Type 0 → Type 0
Told due answer = MatchOption due (answer ⊎ (told.Refused why.LogFull ≡ told.Refused why.OutOfMemory)) (λ reply. told.Refused why.LogFull ≡ reply)

by_log : (full : Bool) (answer : Type 0) → (answer → ⊥) → Told (first_refusal ((full, why.LogFull) ∷ [])) answer → full ≡ true
by_log true answer none is = refl
by_log false answer none (inl a) = absurd (none a)
by_log false answer none (inr is) = cc (is)

-- a cause before it is another one
behind_cause : (c : Bool) (other : Refusal) (rest : Option Reply) (answer : Type 0) → (told.Refused why.LogFull ≡ told.Refused other → ⊥) → Told (cond c (Some (told.Refused other)) rest) answer → Told rest answer
behind_cause true other rest answer apart is = absurd (apart is)
behind_cause false other rest answer apart is = is

behind_phase : (c : Bool) (rest : Option Reply) (answer : Type 0) → Told (or_else (first_refusal ((c, why.WrongPhase) ∷ [])) rest) answer → Told rest answer
behind_phase true rest answer is = cc (is)
behind_phase false rest answer is = is

behind_wait : (z : Bool) (n : ℕ) (rest : Option Reply) (answer : Type 0) → Told (or_else (cond z None (Some (told.NotYet n))) rest) answer → Told rest answer
behind_wait true n rest answer is = is
behind_wait false n rest answer is = cc (is)

module _ (st : Setting) (h : History) where
  -- the refusal for a full log
  abbrev full : Option Reply
  full = first_refusal ((log_is_full h, why.LogFull) ∷ [])

  of_move : (from to : Phase) (class : Class) → Told (or_else (first_refusal ((not (same_phase (phase_of h) from), why.WrongPhase) ∷ [])) (or_else (not_yet (active_in_class st class h)) full)) (told.Refused why.LogFull ≡ told.Phase to (point_of h)) → log_is_full h ≡ true
  of_move from to class is =
      let answer : Type 0 = told.Refused why.LogFull ≡ told.Phase to (point_of h) in
      let n = active_in_class st class h in
      by_log (log_is_full h) answer (λ a. cc (a)) (behind_wait (n == 0) n full answer (behind_phase (not (same_phase (phase_of h) from)) (or_else (not_yet n) full) answer is))

  -- if LogFull is legal, the log is full
  log_full : (phase : Phase) → IsLegal st h (next_event phase) (told.Refused why.LogFull) → log_is_full h ≡ true
  log_full Rest is =
      let answer : Type 0 = told.Refused why.LogFull ≡ told.Phase Prepare (point_of h + 1) in
      let last = point_of h == MOST_POINTS in
      by_log (log_is_full h) answer (λ a. cc (a))
      (behind_cause last why.PointsFull full answer (λ a. cc (a)) (behind_phase (not (same_phase (phase_of h) Rest)) (first_refusal ((last, why.PointsFull) ∷ (log_is_full h, why.LogFull) ∷ [])) answer is))
  log_full Prepare is = of_move Prepare Resolve Before is
  log_full Resolve is = of_move Resolve Capture During is
  log_full Capture is =
      let answer : Type 0 = told.Refused why.LogFull ≡ told.PartDone (point_of h) (length (shelf st.run h) + 1) (length (taken h)) in
      let n = length (closed_set h) in
      let last = length (shelf st.run h) == MOST_FILES in
      let rest = first_refusal ((last, why.ShelfFull) ∷ (log_is_full h, why.LogFull) ∷ []) in
      by_log (log_is_full h) answer (λ a. cc (a))
      (behind_cause last why.ShelfFull full answer (λ a. cc (a)) (behind_wait (n == 0) n rest answer (behind_phase (not (same_phase (phase_of h) Capture)) (or_else (not_yet n) rest) answer is)))
  log_full Complete is = of_move Complete Rest After is

-- a refusal leaves the log
refused_log : (phase : Phase) (given : Refusal) (h : History) → log_is_full (step_of (next_event phase) (told.Refused given) ∷ h) ≡ log_is_full h
refused_log phase given h = ap (λ (log : List Entry). length log == MOST_LOG_ENTRIES) (ap (λ (e : Effect). log_of h ++ entries_by e h) (refused_does_nothing (next_event phase) given) ∙ append-nil (log_of h))

-- the facts by a witness that ends with the refusal
pub shows : (st : Setting) (seen shown : History) (reply : Reply) (given : Refusal) → reply ≡ told.Refused given → EndsWithAdvance st seen reply shown → Shows st seen given shown
shows st seen shown reply given is ends = record { legal = ends.legal; had_seen = ends.had_seen; log = by }
  where
    last : shown ≡ step_of (next_event (phase_of ends.before)) (told.Refused given) ∷ ends.before
    last = ends.last ∙ ap (λ (r : Reply). step_of (next_event (phase_of ends.before)) r ∷ ends.before) is

    legal : IsLegal st ends.before (next_event (phase_of ends.before)) (told.Refused given)
    legal = (subst (IsLegalHistory st) last ends.legal).0

    by : given ≡ why.LogFull → log_is_full shown ≡ true
    by full =
        ap log_is_full last ∙ refused_log (phase_of ends.before) given ends.before
        ∙ log_full st ends.before (phase_of ends.before) (subst (λ (w : Refusal). IsLegal st ends.before (next_event (phase_of ends.before)) (told.Refused w)) full legal)

takes_none : (keys : List (List ℕ)) → TakesFirst keys (told.Refused why.LogFull) → ⊥
takes_none [] takes = takes
takes_none (key ∷ keys) (content, is) = cc (is)

-- a take is never refused for a full log
take_is_not_full : (st : Setting) (h : History) → IsLegal st h asked.Take (told.Refused why.LogFull) → ⊥
take_is_not_full st h is =
    let answer : Type 0 = TakesFirst (closed_set h) (told.Refused why.LogFull) in
    let rest = cond (is_empty (closed_set h)) (Some told.NoneLeft) None in
    by (is_empty (closed_set h)) (behind_phase (not (same_phase (phase_of h) Capture)) rest answer is)
  where
    by : (b : Bool) → Told (cond b (Some told.NoneLeft) None) (TakesFirst (closed_set h) (told.Refused why.LogFull)) → ⊥
    by true bad = cc (bad)
    by false (inl takes) = takes_none (closed_set h) takes
    by false (inr bad) = cc (bad)

-- the facts of a take's refusal by a later witness
pub shows_take : (st : Setting) (before after seen shown : History) (reply : Reply) (given : Refusal) → reply ≡ told.Refused given → IsTakeCalled st before reply after → IsLegalHistory st shown → IsBeginning seen shown → Shows st seen given shown
shows_take st before after seen shown reply given is called legal had_seen = record { legal = legal; had_seen = had_seen; log = by }
  where
    answered : IsAnswered st 0 before asked.Take (told.Refused given)
    answered = subst (IsAnswered st 0 before asked.Take) is called.answered

    by : given ≡ why.LogFull → log_is_full shown ≡ true
    by full = absurd (take_is_not_full st answered.0 (subst (λ (w : Refusal). IsLegal st answered.0 asked.Take (told.Refused w)) full answered.3))

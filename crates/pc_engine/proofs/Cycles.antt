-- The effect of each step of the checkpointer on a world that represents a history.
use Rattle.std.proofs.Common.{◌≡◌, ℕ, ◌+◌, List, [], ◌∷◌, ◌++◌, length, map, append-nil, subst, Option, Some, None, is_none, refl, sym, ap, ◌∙◌, cond, true, false, Bool, not, eqb, ◌||◌}
use Rattle.std.specs.Prelude.{IfSome}
use Rattle.std.specs.FinMap.{put as put_entry}
use Rattle.std.specs.List.{IsDistinct}
use Rattle.pc_types.specs.declared.Event.{Event}
use Rattle.pc_types.specs.declared.Event.TheVariants as asked
use Rattle.pc_types.specs.declared.Reply.{Reply}
use Rattle.pc_types.specs.declared.Reply.TheVariants as told
use Rattle.pc_types.specs.declared.Refusal.{Refusal}
use Rattle.pc_types.specs.declared.Refusal.TheVariants as why
use Rattle.pc_types.specs.declared.Phase.{Phase}
use Rattle.pc_types.specs.declared.Phase.TheVariants.{Rest, Prepare, Resolve, Capture, Complete}
use Rattle.pc_types.specs.declared.Step.{Step}
use Rattle.pc_types.specs.declared.Entry.{Entry}
use Rattle.pc_types.specs.declared.Entry.TheVariants.{Token}
use Rattle.pc_model.specs.Maps as map_of
use Rattle.pc_model.specs.Database.{key_cmp, same_bytes}
use Rattle.pc_model.specs.Log.{after, is_resolve}
use Rattle.pc_model.specs.Files.{File, shelf, shelved_by, file_at, join_of, triples_taken}
use Rattle.pc_model.specs.History.{History, effect, effect_of, log_of, begun, phase_of, point_of, entries_by, begun_by, phase_by, point_by}
use Rattle.pc_types.specs.declared.Class.{Class}
use Rattle.pc_model.specs.History.Effect.{Moves, Nothing}
use Rattle.pc_types.specs.declared.Class.TheVariants.{Before, During, After}
use Rattle.pc_model.specs.Locks.{queue_of, queue_by}
use Rattle.pc_model.specs.Points.{Triples, is_among, touched, taken, taken_by}
use Rattle.pc_model.specs.Replies.{Setting, first_refusal, or_else, not_yet, is_in_phase, active_in_class, log_is_full, join_refusal, join_causes, IsFileReply, is_empty, open_set, written_by, closed_set, TakesFirst as AnswersFirst}
use Rattle.pc_types.specs.Phases.{same_phase}
use Rattle.pc_model.specs.Headline.{is_taking}
use Rattle.pc_model.specs.Standing.{HasLegalEffects, is_past_token}
use Rattle.pc_model.proofs.LogLaws.{after-append}
use Rattle.pc_model.proofs.LegalEffectLaws.{legal_has_legal_effects, not_yet_does_nothing, one_phase}
use Rattle.pc_model.proofs.PointStateLaws.{sealed_state}
use Rattle.pc_model.proofs.StandingLaws.{closed_stays, each_key_once, none_left, past_token, seal_closes, take_leaves}
use Rattle.pc_model.specs.LegalEffects.{changes_closed}
use Rattle.pc_engine.specs.Store.{Store, setting_of}
use Rattle.pc_engine.specs.Steps.{after_moving, after_sealing, start_causes, move_due, take_due, done_due, part_taken, StartsPoint, Moves as MovesOn, Seals, TakesFirstKey, Takes, Shelves, Joins}
use Rattle.pc_engine.specs.Stands.{IsReadOff, Stands, Follows, by_key}
use Rattle.pc_records.proofs.FollowingLaws.{same_records}
use Rattle.pc_records.proofs.CycleLaws.{closed_records, left_records, taken_value}
use Rattle.pc_transactions.specs.Sessions.{class_count}
use Rattle.pc_records.specs.Rows.{record_of, at_point}
use Rattle.pc_engine.proofs.ActiveSessions.{active_by, count_now}
use Rattle.pc_engine.proofs.Gathered.{apart_from, by_key_more, by_key_none, count_by_key, earlier_apart, front_once, same_triples}
use Rattle.pc_engine.proofs.Owing.{with_step, IsLeft, owes_follows, refused_idle, states_stay}

-- the phase has changed, but not to resolve
moved_off : (w : Store) (h : History) (step : Step) (to : Phase) (n : ℕ) → HasLegalEffects (setting_of w) (step ∷ h) → effect step ≡ Moves to n → is_resolve to ≡ false → (is_taking to ≡ true → w.cycle.taken ≡ by_key (taken h)) → IsReadOff w h →
    IsReadOff (after_moving to n w) (step ∷ h)
moved_off w h step to n legal e other taking parts =
    let log : log_of (step ∷ h) ≡ log_of h ++ Token to n ∷ [] = ap (λ d. log_of h ++ entries_by d h) e in
    let written : open_set (step ∷ h) ≡ open_set h = ap (λ d. written_by d h (open_set h)) e ∙ ap (λ b. cond b [] (open_set h)) other in
    let takes : taken (step ∷ h) ≡ taken h = ap (λ d. taken_by d (taken h)) e ∙ ap (λ b. cond b [] (taken h)) other in
    let same : changes_closed (effect step) ≡ false = ap changes_closed e ∙ other in
    let closed : closed_set (step ∷ h) ≡ closed_set h = closed_stays (setting_of w) h step legal same in
    let phase : phase_of (step ∷ h) ≡ to = ap (λ d. phase_by d (phase_of h)) e in
    record {
      records = same_records w.base.pairs w.kept.rows h (step ∷ h) (ap (after w.base.pairs) log ∙ after-append w.base.pairs (log_of h) (Token to n ∷ [])) (λ q. ap (λ d. queue_by q d h (queue_of q h)) e) written closed (states_stay (setting_of w) h step legal) parts.records;
      log = ap (λ l. l ++ Token to n ∷ []) parts.log ∙ sym log;
      begun = parts.begun ∙ sym (ap (λ d. begun_by d (begun h)) e);
      sessions = λ t there. parts.sessions t there ∙ sym (ap (λ d. active_by t d h) e);
      start = parts.start;
      cycle = record {
        phase = sym phase;
        point = sym (ap (λ d. point_by d (point_of h)) e);
        open_set = parts.cycle.open_set ∙ sym written;
        closed_set = parts.cycle.closed_set ∙ sym closed;
        taken = λ t. taking (ap is_taking (sym phase) ∙ t) ∙ sym (ap by_key takes);
        shelved = parts.cycle.shelved ∙ sym (ap (λ d. shelf w.base.run h ++ shelved_by w.base.run d h (shelf w.base.run h)) e ∙ append-nil (shelf w.base.run h));
      };
    }

yet_idle : (event : Event) (n : ℕ) → IfSome (not_yet n) (λ d. effect_of event d ≡ Nothing)
yet_idle event n = by_none (eqb n 0) (not_yet_does_nothing event n)
  where
    by_none : (b : Bool) → effect_of event (told.NotYet n) ≡ Nothing → IfSome (cond b None (Some (told.NotYet n))) (λ d. effect_of event d ≡ Nothing)
    by_none true e = tt
    by_none false e = e

idle_or : (event : Event) (a b : Option Reply) → IfSome a (λ d. effect_of event d ≡ Nothing) → IfSome b (λ d. effect_of event d ≡ Nothing) → IfSome (or_else a b) (λ d. effect_of event d ≡ Nothing)
idle_or event None b p q = q
idle_or event (Some d) b p q = p

next_apart : (gone : List (List ℕ)) (key : List ℕ) (keys : List (List ℕ)) → IsDistinct same_bytes (gone ++ key ∷ keys) → is_among keys key ≡ false
unfolding IsDistinct
next_apart [] key keys once = apart_from key keys once.0
next_apart (g ∷ gone) key keys once = next_apart gone key keys once.1

module _ (old new : Store) (h : History) (reply : Reply) (stands : Stands old h) where
  abbrev st : Setting
  st = setting_of old

  legal_before : HasLegalEffects st h
  legal_before = legal_has_legal_effects st h stands.legal

  in_phase : (p : Phase) → same_phase old.cycle.phase p ≡ is_in_phase p h
  in_phase p = ap (λ x. same_phase x p) stands.parts.cycle.phase

  log_full : eqb (length old.log) 16777216 ≡ log_is_full h
  log_full = ap (λ (l : List Entry). eqb (length l) 16777216) stands.parts.log

  is_phase : (p : Phase) → is_in_phase p h ≡ true → phase_of h ≡ p
  is_phase p e = one_phase (phase_of h) p e

  pub starts_follows : StartsPoint old reply new → Follows st h asked.StartPoint reply new
  starts_follows step =
      owes_follows old new h asked.StartPoint reply _ (first_refusal (start_causes old)) stands tt
      (start_due (not (same_phase old.cycle.phase Rest)) ((eqb old.cycle.point 65535, why.PointsFull) ∷ (eqb (length old.log) 16777216, why.LogFull) ∷ [])
      ∙ ap (λ b. or_else (first_refusal ((not b, why.WrongPhase) ∷ [])) (first_refusal ((eqb old.cycle.point 65535, why.PointsFull) ∷ (eqb (length old.log) 16777216, why.LogFull) ∷ []))) (in_phase Rest)
      ∙ ap (λ n. or_else (first_refusal ((not (is_in_phase Rest h), why.WrongPhase) ∷ [])) (first_refusal ((eqb n 65535, why.PointsFull) ∷ (eqb (length old.log) 16777216, why.LogFull) ∷ []))) stands.parts.cycle.point
      ∙ ap (λ b. or_else (first_refusal ((not (is_in_phase Rest h), why.WrongPhase) ∷ [])) (first_refusal ((eqb (point_of h) 65535, why.PointsFull) ∷ (b, why.LogFull) ∷ []))) log_full)
      (refused_idle asked.StartPoint (start_causes old)) step
      (λ none d. d.0 ∙ ap (λ n. told.Phase Prepare (n + 1)) stands.parts.cycle.point)
      (λ none d legal.
      let now = rw d.0 at legal in
      rw (d.0, d.1) (refl, moved_off old h (record { event = asked.StartPoint; reply = told.Phase Prepare (old.cycle.point + 1) }) Prepare (old.cycle.point + 1) now refl refl (λ t. cc) stands.parts, tt))
    where
      start_due : (a : Bool) (cs : List (Bool × Refusal)) → first_refusal ((a, why.WrongPhase) ∷ cs) ≡ or_else (first_refusal ((a, why.WrongPhase) ∷ [])) (first_refusal cs)
      start_due true cs = refl
      start_due false cs = refl

  -- what is due to a change of the phase
  moves_due : (from : Phase) (class : Class) → move_due from class old ≡ or_else (first_refusal ((not (is_in_phase from h), why.WrongPhase) ∷ [])) (or_else (not_yet (active_in_class st class h)) (first_refusal ((log_is_full h, why.LogFull) ∷ [])))
  moves_due from class =
      ap (λ b. or_else (first_refusal ((not b, why.WrongPhase) ∷ [])) (or_else (not_yet (class_count class old.sessions)) (first_refusal ((eqb (length old.log) 16777216, why.LogFull) ∷ [])))) (in_phase from)
      ∙ ap (λ n. or_else (first_refusal ((not (is_in_phase from h), why.WrongPhase) ∷ [])) (or_else (not_yet n) (first_refusal ((eqb (length old.log) 16777216, why.LogFull) ∷ [])))) (count_now old.sessions h class stands.parts.sessions)
      ∙ ap (λ b. or_else (first_refusal ((not (is_in_phase from h), why.WrongPhase) ∷ [])) (or_else (not_yet (active_in_class st class h)) (first_refusal ((b, why.LogFull) ∷ [])))) log_full

  -- it does nothing
  move_idle : (event : Event) (from : Phase) (class : Class) → IfSome (move_due from class old) (λ d. effect_of event d ≡ Nothing)
  move_idle event from class =
      let full : List (Bool × Refusal) = (eqb (length old.log) 16777216, why.LogFull) ∷ [] in
      let other : List (Bool × Refusal) = (not (same_phase old.cycle.phase from), why.WrongPhase) ∷ [] in
      idle_or event (first_refusal other) (or_else (not_yet (class_count class old.sessions)) (first_refusal full)) (refused_idle event other)
      (idle_or event (not_yet (class_count class old.sessions)) (first_refusal full) (yet_idle event (class_count class old.sessions)) (refused_idle event full))

  -- if nothing else is due at first, the phase is the right one
  first_phase : (p : Phase) (rest : Option Reply) → or_else (first_refusal ((not (same_phase old.cycle.phase p), why.WrongPhase) ∷ [])) rest ≡ None → is_in_phase p h ≡ true
  first_phase p rest none = sym (in_phase p) ∙ by_test (same_phase old.cycle.phase p) none
    where
      by_test : (b : Bool) → or_else (first_refusal ((not b, why.WrongPhase) ∷ [])) rest ≡ None → b ≡ true
      by_test true e = refl
      by_test false e = cc

  -- and so it is if no refusal is due
  right_phase : (from : Phase) (class : Class) → move_due from class old ≡ None → is_in_phase from h ≡ true
  right_phase from class none = first_phase from (or_else (not_yet (class_count class old.sessions)) (first_refusal ((eqb (length old.log) 16777216, why.LogFull) ∷ []))) none

  pub seals_follows : Seals old reply new → Follows st h asked.Seal reply new
  seals_follows step =
      owes_follows old new h asked.Seal reply _ (move_due Prepare Before old) stands tt (moves_due Prepare Before) (move_idle asked.Seal Prepare Before) step
      (λ none d. d.0 ∙ ap (told.Phase Resolve) stands.parts.cycle.point)
      (λ none d legal. rw (d.0, d.1) (sealed_off (is_phase Prepare (right_phase Prepare Before none)) (rw d.0 at legal)))
    where
      sealed_off : phase_of h ≡ Prepare → HasLegalEffects st (with_step h asked.Seal (told.Phase Resolve old.cycle.point)) → IsLeft old (after_sealing (after_moving Resolve old.cycle.point old)) h asked.Seal (told.Phase Resolve old.cycle.point)
      sealed_off prepares legal =
          let closes = seal_closes st h (record { event = asked.Seal; reply = told.Phase Resolve old.cycle.point }) legal old.cycle.point refl in (
            refl,
            record {
              records = closed_records old.base.pairs old.kept.rows h _ (none_left st h legal_before (ap is_taking prepares)) (after-append old.base.pairs (log_of h) (Token Resolve old.cycle.point ∷ [])) (λ q. refl) refl (closes.0 ∙ closes.1) (λ q. ap (λ db. map_of.get db q) (sealed_state st h (record { event = asked.Seal; reply = told.Phase Resolve old.cycle.point }) legal old.cycle.point refl)) stands.parts.records;
              log = ap (λ l. l ++ Token Resolve old.cycle.point ∷ []) stands.parts.log;
              begun = stands.parts.begun;
              sessions = λ t there. stands.parts.sessions t there;
              start = stands.parts.start;
              cycle = record {
                phase = refl;
                point = refl;
                open_set = refl;
                closed_set = stands.parts.cycle.open_set ∙ sym (closes.0 ∙ closes.1);
                taken = λ t. sym by_key_none;
                shelved = stands.parts.cycle.shelved ∙ sym (append-nil (shelf old.base.run h));
              };
            },
            tt,
          )

  pub opens_follows : MovesOn Resolve During Capture old reply new → Follows st h asked.OpenCapture reply new
  opens_follows step =
      owes_follows old new h asked.OpenCapture reply _ (move_due Resolve During old) stands tt (moves_due Resolve During) (move_idle asked.OpenCapture Resolve During) step
      (λ none d. d.0 ∙ ap (told.Phase Capture) stands.parts.cycle.point)
      (λ none d legal.
      let now = rw d.0 at legal in
      let resolves = is_phase Resolve (right_phase Resolve During none) in
      rw (d.0, d.1) (
        refl,
        moved_off old h (record { event = asked.OpenCapture; reply = told.Phase Capture old.cycle.point }) Capture old.cycle.point now refl refl (λ t. stands.parts.cycle.taken (ap is_taking resolves)) stands.parts,
        tt,
      ))

  pub rests_follows : MovesOn Complete After Rest old reply new → Follows st h asked.Rest reply new
  rests_follows step =
      owes_follows old new h asked.Rest reply _ (move_due Complete After old) stands tt (moves_due Complete After) (move_idle asked.Rest Complete After) step
      (λ none d. d.0 ∙ ap (told.Phase Rest) stands.parts.cycle.point)
      (λ none d legal.
      let now = rw d.0 at legal in
      rw (d.0, d.1) (
        refl,
        moved_off old h (record { event = asked.Rest; reply = told.Phase Rest old.cycle.point }) Rest old.cycle.point now refl refl (λ t. cc) stands.parts,
        tt,
      ))

  pub takes_follows : Takes old reply new → Follows st h asked.Take reply new
  takes_follows step =
      owes_follows old new h asked.Take reply _ (take_due old) stands tt
      (ap (λ b. or_else (first_refusal ((not b, why.WrongPhase) ∷ [])) (cond (is_empty old.cycle.closed_set) (Some told.NoneLeft) None)) (in_phase Capture)
      ∙ ap (λ (ks : List (List ℕ)). or_else (first_refusal ((not (is_in_phase Capture h), why.WrongPhase) ∷ [])) (cond (is_empty ks) (Some told.NoneLeft) None)) stands.parts.cycle.closed_set)
      (idle_or asked.Take (first_refusal ((not (same_phase old.cycle.phase Capture), why.WrongPhase) ∷ [])) (cond (is_empty old.cycle.closed_set) (Some told.NoneLeft) None) (refused_idle asked.Take ((not (same_phase old.cycle.phase Capture), why.WrongPhase) ∷ [])) (none_idle (is_empty old.cycle.closed_set)))
      step
      (λ none d. answers old.cycle.closed_set stands.parts.cycle.closed_set d)
      (λ none d legal. leaves old.cycle.closed_set stands.parts.cycle.closed_set (is_phase Capture (first_phase Capture (cond (is_empty old.cycle.closed_set) (Some told.NoneLeft) None) none)) d legal)
    where
      none_idle : (b : Bool) → IfSome (cond b (Some told.NoneLeft) None) (λ d. effect_of asked.Take d ≡ Nothing)
      none_idle true = refl
      none_idle false = tt

      answers : (keys : List (List ℕ)) → keys ≡ closed_set h → TakesFirstKey keys old reply new → AnswersFirst (closed_set h) reply
      answers [] is d = absurd d
      answers (k ∷ ks) is d = subst (λ keys. AnswersFirst keys reply) is (at_point (record_of old.kept.rows k), d.0)

      leaves : (keys : List (List ℕ)) → keys ≡ closed_set h → phase_of h ≡ Capture → TakesFirstKey keys old reply new → HasLegalEffects st (with_step h asked.Take reply) → IsLeft old new h asked.Take reply
      leaves [] is captures d legal = absurd d
      leaves (k ∷ ks) is captures d legal =
          let content = at_point (record_of old.kept.rows k) in
          let now = rw d.0 at legal in
          let taking : is_taking (phase_of h) ≡ true = ap is_taking captures in
          let past : is_past_token (phase_of h) ≡ true = ap is_past_token captures in
          let keys = each_key_once st h legal_before in
          let order : map (λ t. t.0) (taken h) ++ k ∷ ks ≡ touched (point_of h) (log_of h) = ap (λ more. map (λ t. t.0) (taken h) ++ more) is ∙ keys.taken_and_left (past_token st h legal_before past) in
          let distinct = subst (IsDistinct same_bytes) (sym order) keys.once in
          let once : is_among ks k ≡ false = next_apart (map (λ t. t.0) (taken h)) k ks distinct in
          let closed : closed_set (with_step h asked.Take (told.Took k content)) ≡ ks = take_leaves st h (record { event = asked.Take; reply = told.Took k content }) legal_before k content ks refl (sym is) in
          rw (d.0, d.1) (
            refl,
            record {
              records = left_records old.base.pairs old.kept.rows h _ k ks (sym is) once (ap (after old.base.pairs) (append-nil (log_of h))) (λ q. refl) refl closed (states_stay st h (record { event = asked.Take; reply = told.Took k content }) now) stands.parts.records;
              log = rw append-nil stands.parts.log;
              begun = stands.parts.begun;
              sessions = λ t there. stands.parts.sessions t there;
              start = stands.parts.start;
              cycle = record {
                phase = stands.parts.cycle.phase;
                point = stands.parts.cycle.point;
                open_set = stands.parts.cycle.open_set;
                closed_set = sym closed;
                taken = λ t. ap (put_entry key_cmp k content) (stands.parts.cycle.taken taking) ∙ by_key_more (taken h) k content (earlier_apart (map (λ t. t.0) (taken h)) k ks distinct);
                shelved = stands.parts.cycle.shelved ∙ sym (append-nil (shelf old.base.run h));
              };
            },
            taken_value old.base.pairs old.kept.rows h k ks (sym is) stands.parts.records,
          )

  pub shelves_follows : Shelves old reply new → Follows st h asked.Done reply new
  shelves_follows step =
      owes_follows old new h asked.Done reply _ (done_due old) stands tt same idle step
      (λ none d. d.0 ∙ ap (λ n. told.PartDone n (length old.shelf + 1) (length old.cycle.taken)) stands.parts.cycle.point ∙ ap (λ (fs : List File). told.PartDone (point_of h) (length fs + 1) (length old.cycle.taken)) stands.parts.cycle.shelved
      ∙ ap (λ n. told.PartDone (point_of h) (length (shelf old.base.run h) + 1) n) (counted (is_phase Capture (first_phase Capture _ none))))
      (λ none d legal. rw (d.0, d.1) (shelved_off (first_phase Capture _ none) (rw d.0 at legal)))
    where
      late : List (Bool × Refusal)
      late = (eqb (length old.shelf) 65536, why.ShelfFull) ∷ (eqb (length old.log) 16777216, why.LogFull) ∷ []

      same : done_due old ≡ or_else (first_refusal ((not (is_in_phase Capture h), why.WrongPhase) ∷ [])) (or_else (not_yet (length (closed_set h))) (first_refusal ((eqb (length (shelf st.run h)) 65536, why.ShelfFull) ∷ (log_is_full h, why.LogFull) ∷ [])))
      same =
          ap (λ b. or_else (first_refusal ((not b, why.WrongPhase) ∷ [])) (or_else (not_yet (length old.cycle.closed_set)) (first_refusal late))) (in_phase Capture)
          ∙ ap (λ (ks : List (List ℕ)). or_else (first_refusal ((not (is_in_phase Capture h), why.WrongPhase) ∷ [])) (or_else (not_yet (length ks)) (first_refusal late))) stands.parts.cycle.closed_set
          ∙ ap (λ (fs : List File). or_else (first_refusal ((not (is_in_phase Capture h), why.WrongPhase) ∷ [])) (or_else (not_yet (length (closed_set h))) (first_refusal ((eqb (length fs) 65536, why.ShelfFull) ∷ (eqb (length old.log) 16777216, why.LogFull) ∷ [])))) stands.parts.cycle.shelved
          ∙ ap (λ b. or_else (first_refusal ((not (is_in_phase Capture h), why.WrongPhase) ∷ [])) (or_else (not_yet (length (closed_set h))) (first_refusal ((eqb (length (shelf st.run h)) 65536, why.ShelfFull) ∷ (b, why.LogFull) ∷ [])))) log_full

      idle : IfSome (done_due old) (λ d. effect_of asked.Done d ≡ Nothing)
      idle =
          idle_or asked.Done (first_refusal ((not (same_phase old.cycle.phase Capture), why.WrongPhase) ∷ [])) (or_else (not_yet (length old.cycle.closed_set)) (first_refusal late)) (refused_idle asked.Done ((not (same_phase old.cycle.phase Capture), why.WrongPhase) ∷ []))
          (idle_or asked.Done (not_yet (length old.cycle.closed_set)) (first_refusal late) (yet_idle asked.Done (length old.cycle.closed_set)) (refused_idle asked.Done late))

      -- as many entries as keys that were taken
      counted : phase_of h ≡ Capture → length old.cycle.taken ≡ length (taken h)
      counted captures =
          let keys = each_key_once st h legal_before in
          let order = keys.taken_and_left (past_token st h legal_before (ap is_past_token captures)) in
          ap (λ (ts : List (List ℕ × Option (List ℕ))). length ts) (stands.parts.cycle.taken (ap is_taking captures)) ∙ count_by_key (taken h) (front_once (map (λ t. t.0) (taken h)) (closed_set h) (subst (IsDistinct same_bytes) (sym order) keys.once))

      shelved_off : is_in_phase Capture h ≡ true → HasLegalEffects st (with_step h asked.Done (told.PartDone old.cycle.point (length old.shelf + 1) (length old.cycle.taken))) →
          IsLeft old (record old { log = old.log ++ Token Complete old.cycle.point ∷ []; cycle = record old.cycle { phase = Complete; taken = [] }; shelf = old.shelf ++ part_taken old ∷ [] }) h asked.Done (told.PartDone old.cycle.point (length old.shelf + 1) (length old.cycle.taken))
      shelved_off captures legal =
          let done : Step = record { event = asked.Done; reply = told.PartDone old.cycle.point (length old.shelf + 1) (length old.cycle.taken) } in
          let closed : closed_set (done ∷ h) ≡ closed_set h = closed_stays st h done legal refl in
          let takes : triples_taken old.cycle.point old.cycle.taken ≡ triples_taken old.cycle.point (taken h) =
          ap (triples_taken old.cycle.point) (stands.parts.cycle.taken (ap is_taking (is_phase Capture captures))) ∙ same_triples old.cycle.point (taken h) in (
            refl,
            record {
              records = same_records old.base.pairs old.kept.rows h (done ∷ h) (after-append old.base.pairs (log_of h) (Token Complete old.cycle.point ∷ [])) (λ q. refl) refl closed (states_stay st h done legal) stands.parts.records;
              log = ap (λ l. l ++ Token Complete old.cycle.point ∷ []) stands.parts.log;
              begun = stands.parts.begun;
              sessions = λ t there. stands.parts.sessions t there;
              start = stands.parts.start;
              cycle = record {
                phase = refl;
                point = refl;
                open_set = stands.parts.cycle.open_set;
                closed_set = stands.parts.cycle.closed_set ∙ sym closed;
                taken = λ t. cc;
                shelved = ap (λ (fs : List File). fs ++ part_taken old ∷ []) stands.parts.cycle.shelved
                    ∙ ap (λ (triples : Triples). shelf old.base.run h ++ record { run = old.base.run; points = Rattle.pc_model.specs.Sets.insert Rattle.pc_model.specs.Sets.empty old.cycle.point; triples = triples } ∷ []) takes;
              };
            },
            tt,
          )

  pub joins_follows : (a b : ℕ) → Joins old a b reply new → Follows st h (asked.Join a b) reply new
  joins_follows a b step =
      owes_follows old new h (asked.Join a b) reply _ (join_refusal old.shelf (file_at old.shelf a) (file_at old.shelf b)) stands tt
      (ap (λ (fs : List File). join_refusal fs (file_at fs a) (file_at fs b)) stands.parts.cycle.shelved)
      (refused_idle (asked.Join a b) ((is_none (file_at old.shelf a) || is_none (file_at old.shelf b), why.NoFile) ∷ (eqb (length old.shelf) 65536, why.ShelfFull) ∷ join_causes (file_at old.shelf a) (file_at old.shelf b))) step
      (λ none d. subst (λ (fs : List File). IsFileReply (join_of (file_at fs a) (file_at fs b)) (length fs + 1) reply) stands.parts.cycle.shelved d.0)
      (λ none d legal. leaves (join_of (file_at old.shelf a) (file_at old.shelf b)) refl d.0 d.1 legal)
    where
      joined_off : (number : ℕ) (points : List ℕ) (count : ℕ) → HasLegalEffects st (with_step h (asked.Join a b) (told.File number points count)) →
          IsLeft old (record old { shelf = old.shelf ++ join_of (file_at old.shelf a) (file_at old.shelf b) }) h (asked.Join a b) (told.File number points count)
      joined_off number points count legal =
          let done : Step = record { event = asked.Join a b; reply = told.File number points count } in
          let closed : closed_set (done ∷ h) ≡ closed_set h = closed_stays st h done legal refl in (
            refl,
            record {
              records = same_records old.base.pairs old.kept.rows h (done ∷ h) (ap (after old.base.pairs) (append-nil (log_of h))) (λ q. refl) refl closed (states_stay st h done legal) stands.parts.records;
              log = rw append-nil stands.parts.log;
              begun = stands.parts.begun;
              sessions = λ t there. stands.parts.sessions t there;
              start = stands.parts.start;
              cycle = record {
                phase = stands.parts.cycle.phase;
                point = stands.parts.cycle.point;
                open_set = stands.parts.cycle.open_set;
                closed_set = stands.parts.cycle.closed_set ∙ sym closed;
                taken = stands.parts.cycle.taken;
                shelved = ap (λ (fs : List File). fs ++ join_of (file_at fs a) (file_at fs b)) stands.parts.cycle.shelved;
              };
            },
            tt,
          )

      leaves : (files : List File) → join_of (file_at old.shelf a) (file_at old.shelf b) ≡ files → IsFileReply files (length old.shelf + 1) reply → new ≡ record old { shelf = old.shelf ++ join_of (file_at old.shelf a) (file_at old.shelf b) } →
          HasLegalEffects st (with_step h (asked.Join a b) reply) → IsLeft old new h (asked.Join a b) reply
      leaves [] is answer left legal = absurd answer
      leaves (f ∷ fs) is answer left legal = let now = rw answer at legal in rw (answer, left) (joined_off _ _ _ now)

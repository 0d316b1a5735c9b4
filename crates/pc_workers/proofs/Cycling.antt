-- The phases that a checkpointer enters, call after call.
use Rattle.std.proofs.Common.{◌≡◌, ◌⊎◌, inl, inr, ℕ, Bool, true, false, List, [], ◌∷◌, ◌++◌, length, length-append, refl, ap, sym, ◌∙◌, subst, append_assoc, arith}
use Rattle.std.specs.Prelude.{Option, Some, None, IfSome, MatchBool}
use Rattle.std.specs.Prelude.{Result, Ok, Err, IfOk, IfErr}
use Rattle.std.specs.Result.{IsErrAnd}
use Rattle.std.proofs.lemmas.List.{append-nil}
use Rattle.pc_types.specs.declared.Event.{Event}
use Rattle.pc_types.specs.declared.Event.TheVariants as asked
use Rattle.pc_types.specs.declared.Phase.{Phase}
use Rattle.pc_types.specs.declared.Phase.TheVariants.{Rest, Prepare, Resolve, Capture, Complete}
use Rattle.pc_types.specs.declared.Refusal.{Refusal}
use Rattle.pc_types.specs.declared.Reply.{Reply}
use Rattle.pc_types.specs.declared.Reply.TheVariants as told
use Rattle.pc_types.specs.declared.Step.{Step}
use Rattle.pc_types.specs.Phases.{next_phase, next_point}
use Rattle.pc_model.specs.History.{History, Effect, effect, effect_of, effect_of_move, effect_of_take, effect_of_done, phase_by, phase_of, point_by, point_of}
use Rattle.pc_model.specs.History.Effect.{Moves, Shelves, Nothing}
use Rattle.pc_model.specs.Files.{File, shelf, shelved_by}
use Rattle.pc_model.specs.Headline.{TakesPointValue}
use Rattle.pc_model.specs.LegalEffects.{Fits, FitsMove}
use Rattle.pc_model.specs.Replies.{Setting, IsLegal, IsLegalHistory}
use Rattle.pc_model.specs.ReplyKinds.{IsMoveReply, IsDoneReply, IsReplyTo}
use Rattle.pc_model.specs.Calls.{step_of, session_of, counts, Extends, IsAnswered}
use Rattle.pc_model.proofs.BeginningLaws.{beginning_self, beginning_trans}
use Rattle.pc_model.proofs.LegalEffectLaws.{legal_fits}
use Rattle.pc_model.proofs.ReplyKindLaws.{reply_kind}
use Rattle.pc_board.specs.Passes.{Pass}
use Rattle.pc_latch.specs.Cycles.{next_event, IsCalled, IsAdvance, IsTakeCalled, done_among, entered_by, phases_entered}
use Rattle.pc_latch.proofs.CycleLaws.{phase_known, point_known, entered_known, shelf_known, right_before}
use Rattle.pc_workers.proofs.BoardCalls.{done_append}
use Rattle.pc_workers.specs.Checkpointing.{HasReached, HasStood, HasTurned, IsHeldUp, HasPublished, HasBrokenOff, point_named}

own_event : (phase : Phase) → session_of (next_event phase) ≡ 0
own_event Rest = refl
own_event Prepare = refl
own_event Resolve = refl
own_event Capture = refl
own_event Complete = refl

-- an effect that enters no phase, and shelves nothing
abbrev Stays : Effect → Type 0
Stays e = (entered_by e ≡ []) × ((p : Phase) → phase_by e p ≡ p) × ((n : ℕ) → point_by e n ≡ n) × ((run : ℕ) (h : History) (files : List File) → length (shelved_by run e h files) ≡ 0)

stays_nothing : Stays Nothing
stays_nothing = (refl, (λ p. refl), (λ n. refl), (λ run h files. refl))

move_stays : (r : Reply) → point_named r ≡ None → Stays (effect_of_move r)
move_stays (told.Phase phase point) none = cc
move_stays other none = stays_nothing

done_stays : (r : Reply) → point_named r ≡ None → Stays (effect_of_done r)
done_stays (told.PartDone point file entries) none = cc
done_stays other none = stays_nothing

advance_stays : (phase : Phase) (r : Reply) → point_named r ≡ None → Stays (effect_of (next_event phase) r)
advance_stays Rest r none = move_stays r none
advance_stays Prepare r none = move_stays r none
advance_stays Resolve r none = move_stays r none
advance_stays Capture r none = done_stays r none
advance_stays Complete r none = move_stays r none

take_stays : (r : Reply) → Stays (effect_of_take r)
take_stays (told.Took key content) = (refl, (λ p. refl), (λ n. refl), (λ run h files. refl))
take_stays other = stays_nothing

-- nothing was called
pub stood_still : (st : Setting) (h : History) → HasStood st h h
stood_still st h = record { begins = beginning_self h; legal = λ l. l; values = λ v. v; entered = sym (append-nil (phases_entered h)); shelved = omega arith; in_phase = refl; at_point = refl }

pub stood_same : (st : Setting) (before after : History) → after ≡ before → HasStood st before after
stood_same st before after same = subst (HasStood st before) (sym same) (stood_still st before)

module _ (st : Setting) where
  pub reached_on : (xs ys : List (Phase × ℕ)) (p q : Phase) (m n : ℕ) (a b c : History) → HasReached st xs p m a b → HasReached st ys q n b c → HasReached st (xs ++ ys) q n a c
  reached_on xs ys p q m n a b c r s = record {
    begins = beginning_trans a b c r.begins s.begins;
    legal = λ l. s.legal (r.legal l);
    values = λ v. s.values (r.values v);
    entered = s.entered ∙ (ap (λ l. l ++ ys) r.entered ∙ append_assoc (phases_entered a) xs ys);
    shelved = let both = ap length (done_append xs ys) ∙ length-append (done_among xs) (done_among ys) in omega (arith, r.shelved, s.shelved, both);
    in_phase = s.in_phase;
    at_point = s.at_point;
  }

  -- and then no phase is entered
  pub reached_stood : (xs : List (Phase × ℕ)) (p : Phase) (m : ℕ) (a b c : History) → HasReached st xs p m a b → HasStood st b c → HasReached st xs p m a c
  reached_stood xs p m a b c r s = record {
    begins = beginning_trans a b c r.begins s.begins;
    legal = λ l. s.legal (r.legal l);
    values = λ v. s.values (r.values v);
    entered = s.entered ∙ (append-nil (phases_entered b) ∙ r.entered);
    shelved = omega (arith, r.shelved, s.shelved);
    in_phase = s.in_phase ∙ r.in_phase;
    at_point = s.at_point ∙ r.at_point;
  }

  -- or the next one
  pub reached_turned : (xs : List (Phase × ℕ)) (p : Phase) (m : ℕ) (a b c : History) → HasReached st xs p m a b → HasTurned st b c → HasReached st (xs ++ (next_phase p, next_point p m) ∷ []) (next_phase p) (next_point p m) a c
  reached_turned xs p m a b c r s =
      reached_on xs ((next_phase p, next_point p m) ∷ []) p (next_phase p) m (next_point p m) a b c r
      (subst (λ (y : Phase × ℕ). HasReached st ((next_phase y.0, next_point y.0 y.1) ∷ []) (next_phase y.0) (next_point y.0 y.1) b c) (λ i. (r.in_phase i, r.at_point i)) s)

  -- a call that counts
  went_on : (before after : History) (step : Step) (phases : List (Phase × ℕ)) (phase : Phase) (point : ℕ) → session_of step.event ≡ 0 → TakesPointValue st.base after → Extends st before step after
      → ((middle : History) → IsLegal st middle step.event step.reply → phase_of middle ≡ phase_of before → point_of middle ≡ point_of before →
      (entered_by (effect step) ≡ phases) × (phase_by (effect step) (phase_of middle) ≡ phase) × (point_by (effect step) (point_of middle) ≡ point)
      × (length (shelved_by st.run (effect step) middle (shelf st.run middle)) ≡ length (done_among phases)))
      → HasReached st phases phase point before after
  went_on before after step phases phase point own values x does =
      let rb = right_before st before after step own x in
      let middle = rb.0 in
      let is = rb.1 in
      let has = rb.2 in
      let legal : IsLegalHistory st (step ∷ middle) = subst (IsLegalHistory st) is x.0 in
      let d = does middle legal.0 (phase_known middle before has) (point_known middle before has) in record {
        begins = (step ∷ has.0.0, is ∙ ap (λ (l : History). step ∷ l) has.0.1);
        legal = λ l. x.0;
        values = λ v. values;
        entered = ap phases_entered is ∙ ((λ i. entered_known middle before has i ++ d.0 i));
        shelved =
            let on = ap (λ (h : History). length (shelf st.run h)) is in
            let both = length-append (shelf st.run middle) (shelved_by st.run (effect step) middle (shelf st.run middle)) in
            let was = ap length (shelf_known st.run middle before has) in
            let more = d.3 in
            omega (arith, on, both, was, more);
        in_phase = ap phase_of is ∙ d.1;
        at_point = ap point_of is ∙ d.2;
      }

  by_count : (before after : History) (event : Event) (reply : Reply) → session_of event ≡ 0 → Stays (effect_of event reply) → IsCalled st before event reply after → HasStood st before after
  by_count before after event reply own stays called = by_case (counts reply) called.moves
    where
      by_case : (b : Bool) → MatchBool b (Extends st before (step_of event reply) after) (after ≡ before) → HasStood st before after
      by_case true x =
          went_on before after (step_of event reply) [] (phase_of before) (point_of before) own called.values x
          (λ middle legal phase point. (stays.0, stays.1 (phase_of middle) ∙ phase, stays.2 (point_of middle) ∙ point, stays.3 st.run middle (shelf st.run middle)))
      by_case false same = stood_same st before after same

-- a legal change of the phase is one to the next phase
next_of : (h : History) (q : Phase) (n : ℕ) → FitsMove h q n → (q ≡ next_phase (phase_of h)) × (n ≡ next_point (phase_of h) (point_of h))
next_of h Rest n f = (sym (ap next_phase f.0), f.1 ∙ sym (ap (λ p. next_point p (point_of h)) f.0))
next_of h Prepare n f = (sym (ap next_phase f.0), f.1 ∙ sym (ap (λ p. next_point p (point_of h)) f.0))
next_of h Resolve n f = (sym (ap next_phase f.0), f.1 ∙ sym (ap (λ p. next_point p (point_of h)) f.0))
next_of h Capture n f = (sym (ap next_phase f.0), f.1 ∙ sym (ap (λ p. next_point p (point_of h)) f.0))
next_of h Complete n f = absurd f

-- the part of a point isn't done as such a phase is entered
not_done : (h : History) (q : Phase) (n : ℕ) → FitsMove h q n → length (done_among ((q, n) ∷ [])) ≡ 0
not_done h Rest n f = refl
not_done h Prepare n f = refl
not_done h Resolve n f = refl
not_done h Capture n f = refl
not_done h Complete n f = absurd f

-- an effect that enters this phase at this point, and shelves the part that is done as it is
abbrev Enters : Effect → Phase → ℕ → Type 0
Enters e phase point = (entered_by e ≡ (phase, point) ∷ []) × ((p : Phase) → phase_by e p ≡ phase) × ((n : ℕ) → point_by e n ≡ point)
    × ((run : ℕ) (h : History) (files : List File) → length (shelved_by run e h files) ≡ length (done_among ((phase, point) ∷ [])))

move_named : (r : Reply) (n : ℕ) → IsMoveReply r → point_named r ≡ Some n → (q : Phase) × (effect_of_move r ≡ Moves q n)
move_named (told.Phase phase point) n kind is = (phase, ap (Moves phase) (cc (is)))
move_named (told.NotYet count) n kind is = absurd (cc (is))
move_named (told.Refused why) n kind is = absurd (cc (is))
move_named other n kind is = absurd kind

done_named : (r : Reply) (n : ℕ) → IsDoneReply r → point_named r ≡ Some n → effect_of_done r ≡ Shelves n
done_named (told.PartDone point file entries) n kind is = ap Shelves (cc (is))
done_named (told.NotYet count) n kind is = absurd (cc (is))
done_named (told.Refused why) n kind is = absurd (cc (is))
done_named other n kind is = absurd kind

named : (phase : Phase) (r : Reply) (n : ℕ) → IsReplyTo (next_event phase) r → point_named r ≡ Some n → (effect_of (next_event phase) r ≡ Shelves n) ⊎ ((q : Phase) × (effect_of (next_event phase) r ≡ Moves q n))
named Rest r n kind is = inr (move_named r n kind is)
named Prepare r n kind is = inr (move_named r n kind is)
named Resolve r n kind is = inr (move_named r n kind is)
named Capture r n kind is = inl (done_named r n kind is)
named Complete r n kind is = inr (move_named r n kind is)

counts_named : (r : Reply) (n : ℕ) → point_named r ≡ Some n → counts r ≡ true
counts_named (told.Phase phase point) n is = refl
counts_named (told.PartDone point file entries) n is = refl
counts_named other n is = absurd (cc (is))

module _ (st : Setting) where
  entering : (h : History) (p : Phase) (m : ℕ) (r : Reply) (n : ℕ) → IsLegal st h (next_event p) r → point_named r ≡ Some n → phase_of h ≡ p → point_of h ≡ m
      → Enters (effect_of (next_event p) r) (next_phase p) (next_point p m) × (n ≡ next_point p m)
  entering h p m r n legal is phase point =
      elim (named p r n (reply_kind st h (next_event p) r legal) is) [
        | inl e ↦
            let f : Fits st h (Shelves n) = subst (Fits st h) e (legal_fits st h (next_event p) r legal) in
            let from : p ≡ Capture = sym phase ∙ f.0 in
            let q : Complete ≡ next_phase p = sym (ap next_phase from) in
            let at : n ≡ next_point p m = f.1 ∙ (point ∙ sym (ap (λ k. next_point k m) from)) in
            let one : 1 ≡ length (done_among ((next_phase p, next_point p m) ∷ [])) = (λ i. length (done_among ((q i, at i) ∷ []))) in
            ((ap entered_by e ∙ (λ i. (q i, at i) ∷ []), (λ k. ap (λ x. phase_by x k) e ∙ q), (λ k. ap (λ x. point_by x k) e ∙ at), (λ run early files. ap (λ x. length (shelved_by run x early files)) e ∙ one)), at)
        | inr e ↦
            let f : FitsMove h e.0 n = subst (Fits st h) e.1 (legal_fits st h (next_event p) r legal) in
            let next = next_of h e.0 n f in
            let q : e.0 ≡ next_phase p = next.0 ∙ ap next_phase phase in
            let at : n ≡ next_point p m = next.1 ∙ (λ i. next_point (phase i) (point i)) in
            let none : 0 ≡ length (done_among ((next_phase p, next_point p m) ∷ [])) = sym (not_done h e.0 n f) ∙ (λ i. length (done_among ((q i, at i) ∷ []))) in
            ((ap entered_by e.1 ∙ (λ i. (q i, at i) ∷ []), (λ k. ap (λ x. phase_by x k) e.1 ∙ q), (λ k. ap (λ x. point_by x k) e.1 ∙ at), (λ run early files. ap (λ x. length (shelved_by run x early files)) e.1 ∙ none)), at)
      ]

  module _ (before after : History) (reply : Reply) where
    -- the event was answered with another phase
    pub turned : (n : ℕ) → point_named reply ≡ Some n → IsAdvance st before reply after → HasTurned st before after × (n ≡ point_of after)
    turned n is called =
        let p = phase_of before in
        let m = point_of before in
        let own = own_event p in
        let step = step_of (next_event p) reply in
        let x : Extends st before step after = subst (λ b. MatchBool b (Extends st before step after) (after ≡ before)) (counts_named reply n is) called.moves in
        let does = (λ (middle : History) (legal : IsLegal st middle (next_event p) reply) (phase : phase_of middle ≡ p) (point : point_of middle ≡ m). entering middle p m reply n legal is phase point) in
        let reached : HasTurned st before after =
        went_on st before after step ((next_phase p, next_point p m) ∷ []) (next_phase p) (next_point p m) own called.values x
        (λ middle legal phase point. let e = (does middle legal phase point).0 in (e.0, e.1 (phase_of middle), e.2 (point_of middle), e.3 st.run middle (shelf st.run middle))) in
        let rb = right_before st before after step own x in
        let legal : IsLegalHistory st (step ∷ rb.0) = subst (IsLegalHistory st) rb.1 x.0 in
        (reached, (does rb.0 legal.0 (phase_known rb.0 before rb.2) (point_known rb.0 before rb.2)).1 ∙ sym reached.at_point)

    pub turned_if : (named : Option ℕ) → named ≡ point_named reply → IsAdvance st before reply after → IfSome named (λ point. HasTurned st before after × (point ≡ point_of after))
    turned_if None is called = tt
    turned_if (Some n) is called = turned n (sym is) called

    -- or that others are still in the way
    pub waited : point_named reply ≡ None → IsAdvance st before reply after → HasStood st before after
    waited none called = by_count st before after (next_event (phase_of before)) reply (own_event (phase_of before)) (advance_stays (phase_of before) reply none) called

    pub took : IsTakeCalled st before reply after → HasStood st before after
    took called = by_count st before after asked.Take reply refl (take_stays reply) called

    refused_at : (event : Event) (why : Refusal) → reply ≡ told.Refused why → IsCalled st before event reply after → (after ≡ before) × IsAnswered st 0 before event (told.Refused why)
    refused_at event why is called =
        (subst (λ (r : Reply). MatchBool (counts r) (Extends st before (step_of event r) after) (after ≡ before)) is called.moves, subst (λ (r : Reply). IsAnswered st 0 before event r) is called.answered)

    -- or refused
    pub advance_refused : (why : Refusal) → reply ≡ told.Refused why → IsAdvance st before reply after → IsHeldUp st before after why
    advance_refused why is called =
        let r = refused_at (next_event (phase_of before)) why is called in
        (stood_same st before after r.0, inl (subst (λ (h : History). IsAnswered st 0 h (next_event (phase_of h)) (told.Refused why)) (sym r.0) r.1))

    pub take_refused : (why : Refusal) → phase_of before ≡ Capture → reply ≡ told.Refused why → IsTakeCalled st before reply after → IsHeldUp st before after why
    take_refused why capture is called =
        let r = refused_at asked.Take why is called in
        (stood_same st before after r.0, inr (ap phase_of r.0 ∙ capture, subst (λ (h : History). IsAnswered st 0 h asked.Take (told.Refused why)) (sym r.0) r.1))

  pub stood_turned : (a b c : History) → HasStood st a b → HasTurned st b c → HasTurned st a c
  stood_turned a b c r s = reached_turned st [] (phase_of a) (point_of a) a b c r s

  pub stood_on : (a b c : History) → HasStood st a b → HasStood st b c → HasStood st a c
  stood_on a b c r s = reached_stood st [] (phase_of a) (point_of a) a b c r s

  pub held_on : (a b c : History) (why : Refusal) → HasStood st a b → IsHeldUp st b c why → IsHeldUp st a c why
  held_on a b c why r h = (stood_on a b c r h.0, h.1)

  -- it is held up when only a beginning of the phases that were due was entered
  pub breaks_off : (due xs ys : List (Phase × ℕ)) (p : Phase) (m : ℕ) (a b c : History) (earlier later : Pass) (why : Refusal) → xs ++ ys ≡ due → HasReached st xs p m a b → HasPublished xs earlier later → IsHeldUp st b c why
      → HasBrokenOff st due a c earlier later why
  breaks_off due xs ys p m a b c earlier later why is r published held =
      record { phases = xs; phase = p; point = m; first = (ys, is); reached = reached_stood st xs p m a b c r held.0; published = published; refusal = held.1 }

-- what holds of a result's value
pub of_value : {T E : Type 0} (P : T → Type 0) (r : Result T E) (x : T) → r ≡ Ok x → IfOk r P → P x
of_value {T} {E} P r x is holds = subst (λ (q : Result T E). IfOk q P) is holds

-- and of its refusal
pub of_refusal : {T : Type 0} (P : Refusal → Type 0) (r : Result T Refusal) (why : Refusal) → IsErrAnd r (λ given. given ≡ why) → P why → IfErr r P
of_refusal P (Ok x) why is holds = tt
of_refusal P (Err given) why is holds = subst P (sym is) holds

-- the same of its companion
pub of_stop : {T E : Type 0} (r : Result T E) (stop : E) → IsErrAnd r (λ given. given ≡ stop) → (P : E → Type 0) → P stop → IfErr r P
of_stop (Ok x) stop is P holds = tt
of_stop (Err given) stop is P holds = subst P (sym is) holds

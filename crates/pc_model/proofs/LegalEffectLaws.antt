-- What a legal effect says of the history before it.
use Rattle.pc_types.specs.declared.Mode.TheVariants.{Exclusive}
use Rattle.pc_types.specs.declared.Outcome.{Outcome}
use Rattle.pc_types.specs.declared.Outcome.TheVariants.{Granted, Queued, Died}
use Rattle.pc_model.specs.Database.{written}
use Rattle.pc_types.specs.Changes.{added, can_add}
use Rattle.pc_model.proofs.AddLaws.{add_stands}
use Rattle.std.proofs.Common.{◌≡◌, ℕ, zero, suc, ◌≤◌, List, [], ◌∷◌, ◌++◌, length, eqb, not, ◌||◌, Option, Some, None, refl, sym, ap, subst, ◌∙◌, cond, Bool, true, false, ◌⊎◌, inl, inr, arith}
use Rattle.std.specs.Prelude.{MatchOption, ℤ}
use Rattle.std.specs.List.{list_any}
use Rattle.std.proofs.lemmas.Bool.Decides.{nat_tests}
use Rattle.std.proofs.lemmas.List.Folds.{list_any-append}
use Rattle.pc_types.specs.declared.Phase.{Phase}
use Rattle.pc_types.specs.declared.Phase.TheVariants.{Rest, Prepare, Resolve, Capture, Complete}
use Rattle.pc_types.specs.declared.Event.{Event}
use Rattle.pc_types.specs.declared.Event.TheVariants as asked
use Rattle.pc_types.specs.declared.Reply.{Reply}
use Rattle.pc_types.specs.declared.Reply.TheVariants as told
use Rattle.pc_types.specs.declared.Refusal.{Refusal}
use Rattle.pc_types.specs.declared.Refusal.TheVariants as why
use Rattle.pc_model.specs.History.{History, Effect, effect_of, is_open, phase_of, point_of, has_died, effect_of_add, writes_of, transaction_number_of}
use Rattle.pc_model.specs.History.Effect.{Nothing}
use Rattle.pc_types.specs.declared.Class.{Class}
use Rattle.pc_types.specs.declared.Class.TheVariants.{Before, During, After}
use Rattle.pc_model.specs.Locks.{is_waiting, outcome, queue_of}
use Rattle.pc_model.specs.Files.{shelf, numbers_to}
use Rattle.pc_model.specs.Replies.{Setting, is_in_phase, closed_set, is_empty, first_refusal, or_else, no_session, log_is_full, transaction_causes, not_yet, wrong_phase, held_back_reply, TakesFirst, certain, Answers, IsLegal, IsLegalHistory, write_causes, add_causes, seen_by, sum_or_zero, by_outcome}
use Rattle.pc_model.specs.LegalEffects.{some_active, Fits, IsIdle, IsIdleIfAny}
use Rattle.pc_types.specs.Phases.{same_phase}
use Rattle.pc_model.specs.Standing.{HasLegalEffects}
use Rattle.pc_model.proofs.EffectCases.{by_event, begin_case, get_case, write_case, abort_case, join_case}
use Rattle.pc_model.proofs.EffectLaws.{refused_does_nothing, no_first, no_other}
use Rattle.pc_model.proofs.CertainReplies.{answer_or_kind, by_either, by_causes, by_phase, by_count, by_held, answer_or_refusal}

refused_idle : (w : Refusal) → IsIdle (told.Refused w)
refused_idle w event = refused_does_nothing event w

pub not_yet_does_nothing : (event : Event) (n : ℕ) → effect_of event (told.NotYet n) ≡ Nothing
not_yet_does_nothing event n = by_event (λ e. e ≡ Nothing) (told.NotYet n) (λ s. refl) (λ s key. refl) (λ s key value. refl) (λ s key delta. refl) (λ s. refl) (λ s. refl) refl refl refl (λ a b. refl) event

none_left_does_nothing : (event : Event) → effect_of event told.NoneLeft ≡ Nothing
none_left_does_nothing event = by_event (λ e. e ≡ Nothing) told.NoneLeft (λ s. refl) (λ s key. refl) (λ s key value. refl) (λ s key delta. refl) (λ s. refl) (λ s. refl) refl refl refl (λ a b. refl) event

-- what the first cause gives is idle
pub causes_idle : (causes : List (Bool × Refusal)) → IsIdleIfAny (first_refusal causes)
causes_idle = by_causes IsIdle refused_idle

pub or_else_idle : (o p : Option Reply) → IsIdleIfAny o → IsIdleIfAny p → IsIdleIfAny (or_else o p)
or_else_idle = by_either IsIdle

pub held_back_idle : (st : Setting) (from : Phase) (class : Class) (h : History) → IsIdleIfAny (held_back_reply st from class h)
held_back_idle = by_held IsIdle refused_idle (λ count event. not_yet_does_nothing event count)

none_left_idle : (b : Bool) → IsIdleIfAny (cond b (Some told.NoneLeft) None)
none_left_idle true = none_left_does_nothing
none_left_idle false = tt

-- a legal reply is idle, or the answer if no reply was certain
pub settled : (o : Option Reply) (Answer : Type 0) (reply : Reply) → IsIdleIfAny o → MatchOption o (Answer ⊎ (reply ≡ told.Refused why.OutOfMemory)) (λ due. reply ≡ due) → ((o ≡ None) × Answer) ⊎ IsIdle reply
settled o Answer reply idle = answer_or_kind IsIdle (refused_idle why.OutOfMemory) o idle Answer reply

idle_fits : (st : Setting) (h : History) (event : Event) (reply : Reply) → IsIdle reply → Fits st h (effect_of event reply)
idle_fits st h event reply idle = let P : Effect → Type 0 = Fits st h in subst P (sym (idle event)) tt

pub or_else_none : (o p : Option Reply) → or_else o p ≡ None → (o ≡ None) × (p ≡ None)
or_else_none None p none = (refl, none)
or_else_none (Some due) p none = cc

pub turned : (b : Bool) → not b ≡ false → b ≡ true
turned true e = refl
turned false e = cc

-- phases that a test finds the same are one
pub one_phase : (a b : Phase) → same_phase a b ≡ true → a ≡ b
one_phase Rest Rest e = refl
one_phase Prepare Prepare e = refl
one_phase Resolve Resolve e = refl
one_phase Capture Capture e = refl
one_phase Complete Complete e = refl
one_phase a b e = cc

right_phase : (from : Phase) (h : History) → wrong_phase from h ≡ None → phase_of h ≡ from
right_phase from h none = one_phase (phase_of h) from (turned (is_in_phase from h) (no_first (not (is_in_phase from h), why.WrongPhase) [] none))

held_back_phase : (st : Setting) (from : Phase) (class : Class) (h : History) → held_back_reply st from class h ≡ None → phase_of h ≡ from
held_back_phase st from class h none = right_phase from h (or_else_none (wrong_phase from h) _ none).0

none_empty : {X : Type 0} (xs : List X) → not_yet (length xs) ≡ None → xs ≡ []
none_empty [] none = refl
none_empty (x ∷ xs) none = absurd (some_left (length (x ∷ xs)) (omega arith) none)
  where
    some_left : (count : ℕ) → 1 ≤ count → not_yet count ≡ None → ⊥
    some_left count many none =
        let other : eqb count 0 ≡ false = grind (arith, nat_tests) in
        no_none (ap (λ b. cond b None (Some (told.NotYet count))) (sym other) ∙ none)
      where
        no_none : Some (told.NotYet count) ≡ None → ⊥
        no_none e = cc

-- a number from 1 on is among the numbers up to any that isn't below it
among_numbers : (p : ℕ → Bool) (n s : ℕ) → 1 ≤ s → s ≤ n → p s ≡ true → list_any p (numbers_to n) ≡ true
among_numbers p zero s low high is = absurd (omega arith)
among_numbers p (suc n) s low high is = list_any-append p (numbers_to n) (suc n ∷ []) ∙ by_last (eqb s (suc n)) refl (among_numbers p n s low)
  where
    by_last : (b : Bool) → eqb s (suc n) ≡ b → (s ≤ n → p s ≡ true → list_any p (numbers_to n) ≡ true) → (list_any p (numbers_to n) || list_any p (suc n ∷ [])) ≡ true
    by_last true e later =
        let last : s ≡ suc n = grind (arith, nat_tests) in
        let there : p (suc n) ≡ true = ap p (sym last) ∙ is in
        ap (λ b. list_any p (numbers_to n) || (b || false)) there ∙ or_true (list_any p (numbers_to n))
      where
        or_true : (b : Bool) → (b || true) ≡ true
        or_true true = refl
        or_true false = refl
    by_last false e later =
        let below : s ≤ n = grind (arith, nat_tests) in
        ap (λ b. b || list_any p (suc n ∷ [])) (later below is)

module _ (st : Setting) (h : History) where
  pub is_a_session : (s : ℕ) → no_session st s ≡ false → (1 ≤ s) × (s ≤ st.sessions)
  is_a_session s none = (grind (arith, nat_tests), grind (arith, nat_tests))

  -- a commit is of an active transaction
  commit_active : (s : ℕ) → certain st h (asked.Commit s) ≡ None → some_active st h ≡ true
  commit_active s none =
      let full = (log_is_full h, why.LogFull) ∷ [] in
      let died = (has_died s h, why.MustAbort) ∷ full in
      let waits = (is_waiting s h, why.StillWaiting) ∷ died in
      let closed = (not (is_open s h), why.NoTransaction) ∷ waits in
      let session = is_a_session s (no_first (no_session st s, why.NoSession) closed none) in
      let open_then : is_open s h ≡ true = turned (is_open s h) (no_first (not (is_open s h), why.NoTransaction) waits (no_other (no_session st s, why.NoSession) closed none)) in
      among_numbers (λ t. is_open t h) st.sessions s session.0 session.1 open_then

  take_fits : (reply : Reply) (keys : List (List ℕ)) → closed_set h ≡ keys → phase_of h ≡ Capture → TakesFirst keys reply → Fits st h (effect_of asked.Take reply)
  take_fits reply [] is from first = absurd first
  take_fits reply (key ∷ keys) is from first = let P : Reply → Type 0 = (λ r. Fits st h (effect_of asked.Take r)) in subst P (sym first.1) (from, keys, is)

  add_fits : (s : ℕ) (key : List ℕ) (delta : ℤ) (o : Outcome) (sum : ℤ) → (o ≡ Granted → can_add (written (writes_of s h) key) delta ≡ true) → Fits st h (effect_of_add s key delta (by_outcome o (told.Sum sum)))
  add_fits s key delta Granted sum may = may refl
  add_fits s key delta Queued sum may = tt
  add_fits s key delta Died sum may = tt

  -- the effect of a legal reply fits
  pub legal_fits : (event : Event) (reply : Reply) → IsLegal st h event reply → Fits st h (effect_of event reply)
  legal_fits (asked.Begin s) reply legal = begin_case (Fits st h) tt s reply (λ counts. tt)
  legal_fits (asked.Get s key) reply legal = get_case (Fits st h) tt s key reply (λ answer counts. tt) tt tt
  legal_fits (asked.Put s key value) reply legal = write_case (Fits st h) tt s key (Some value) reply (λ counts. tt) tt tt
  legal_fits (asked.Del s key) reply legal = write_case (Fits st h) tt s key None reply (λ counts. tt) tt tt
  legal_fits (asked.Add s key delta) reply legal = elim (answer_or_refusal (write_causes st s key h ++ add_causes st s key delta h) (Answers st h (asked.Add s key delta) reply) reply legal) [
    | inl answered ↦ let P : Reply → Type 0 = (λ r. Fits st h (effect_of (asked.Add s key delta) r)) in
        subst P (sym answered.1) (add_fits s key delta (outcome (queue_of key h) (transaction_number_of s h) Exclusive) (sum_or_zero (added delta (seen_by st s key h))) (λ granted. (add_stands st h s key delta answered.0 granted).1))
    | inr refused ↦ let P : Effect → Type 0 = Fits st h in subst P (sym (ap (effect_of (asked.Add s key delta)) refused.1 ∙ refused_does_nothing (asked.Add s key delta) refused.0)) tt
  ]
  legal_fits (asked.Commit s) reply legal =
      elim (settled (certain st h (asked.Commit s)) (Answers st h (asked.Commit s) reply) reply (causes_idle (transaction_causes st s h ++ (log_is_full h, why.LogFull) ∷ [])) legal) [
        | inl answered ↦ let P : Reply → Type 0 = (λ r. Fits st h (effect_of (asked.Commit s) r)) in subst P (sym answered.1) (commit_active s answered.0)
        | inr idle ↦ idle_fits st h (asked.Commit s) reply idle
      ]
  legal_fits (asked.Abort s) reply legal = abort_case (Fits st h) tt s reply (λ counts. tt)
  legal_fits asked.StartPoint reply legal =
      elim (settled (certain st h asked.StartPoint) (Answers st h asked.StartPoint reply) reply
      (by_phase IsIdle refused_idle Rest h _ (causes_idle ((eqb (point_of h) 65535, why.PointsFull) ∷ (log_is_full h, why.LogFull) ∷ []))) legal) [
        | inl answered ↦ let P : Reply → Type 0 = (λ r. Fits st h (effect_of asked.StartPoint r)) in subst P (sym answered.1) (right_phase Rest h (or_else_none (wrong_phase Rest h) _ answered.0).0, refl)
        | inr idle ↦ idle_fits st h asked.StartPoint reply idle
      ]
  legal_fits asked.Seal reply legal =
      elim (settled (certain st h asked.Seal) (Answers st h asked.Seal reply) reply (held_back_idle st Prepare Before h) legal) [
        | inl answered ↦ let P : Reply → Type 0 = (λ r. Fits st h (effect_of asked.Seal r)) in subst P (sym answered.1) (held_back_phase st Prepare Before h answered.0, refl)
        | inr idle ↦ idle_fits st h asked.Seal reply idle
      ]
  legal_fits asked.OpenCapture reply legal =
      elim (settled (certain st h asked.OpenCapture) (Answers st h asked.OpenCapture reply) reply (held_back_idle st Resolve During h) legal) [
        | inl answered ↦ let P : Reply → Type 0 = (λ r. Fits st h (effect_of asked.OpenCapture r)) in subst P (sym answered.1) (held_back_phase st Resolve During h answered.0, refl)
        | inr idle ↦ idle_fits st h asked.OpenCapture reply idle
      ]
  legal_fits asked.Take reply legal =
      elim (settled (certain st h asked.Take) (Answers st h asked.Take reply) reply
      (by_phase IsIdle refused_idle Capture h _ (none_left_idle (is_empty (closed_set h)))) legal) [
        | inl answered ↦ take_fits reply (closed_set h) refl (right_phase Capture h (or_else_none (wrong_phase Capture h) _ answered.0).0) answered.1
        | inr idle ↦ idle_fits st h asked.Take reply idle
      ]
  legal_fits asked.Done reply legal =
      let full = first_refusal ((eqb (length (shelf st.run h)) 65536, why.ShelfFull) ∷ (log_is_full h, why.LogFull) ∷ []) in
      elim (settled (certain st h asked.Done) (Answers st h asked.Done reply) reply
      (by_phase IsIdle refused_idle Capture h _
      (by_count IsIdle refused_idle (λ count event. not_yet_does_nothing event count) (length (closed_set h)) full (causes_idle ((eqb (length (shelf st.run h)) 65536, why.ShelfFull) ∷ (log_is_full h, why.LogFull) ∷ [])))) legal) [
        | inl answered ↦
            let parts = or_else_none (wrong_phase Capture h) (or_else (not_yet (length (closed_set h))) full) answered.0 in
            let P : Reply → Type 0 = (λ r. Fits st h (effect_of asked.Done r)) in
            subst P (sym answered.1) (right_phase Capture h parts.0, refl, none_empty (closed_set h) (or_else_none (not_yet (length (closed_set h))) full parts.1).0)
        | inr idle ↦ idle_fits st h asked.Done reply idle
      ]
  legal_fits asked.Rest reply legal =
      elim (settled (certain st h asked.Rest) (Answers st h asked.Rest reply) reply (held_back_idle st Complete After h) legal) [
        | inl answered ↦ let P : Reply → Type 0 = (λ r. Fits st h (effect_of asked.Rest r)) in subst P (sym answered.1) (held_back_phase st Complete After h answered.0, refl)
        | inr idle ↦ idle_fits st h asked.Rest reply idle
      ]
  legal_fits (asked.Join a b) reply legal = join_case (Fits st h) tt a b reply tt

  -- and so does no effect
  pub nothing_fits : (e : Effect) → e ≡ Nothing → Fits st h e
  nothing_fits e is = let P : Effect → Type 0 = Fits st h in subst P (sym is) tt

  pub effect_fits : (event : Event) (reply : Reply) → IsLegal st h event reply ⊎ (effect_of event reply ≡ Nothing) → Fits st h (effect_of event reply)
  effect_fits event reply (inl legal) = legal_fits event reply legal
  effect_fits event reply (inr nothing) = nothing_fits (effect_of event reply) nothing

-- a legal history has legal effects
pub legal_has_legal_effects : (st : Setting) (h : History) → IsLegalHistory st h → HasLegalEffects st h
legal_has_legal_effects st [] legal = tt
legal_has_legal_effects st (step ∷ h) legal = (inl legal.0, legal_has_legal_effects st h legal.1)

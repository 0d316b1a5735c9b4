-- How long the log of a legal history is.
use Rattle.std.proofs.Common.{◌≡◌, ℕ, ◌+◌, ◌≤◌, ◌⊎◌, inl, inr, eqb, not, Bool, true, false, cond, List, [], ◌∷◌, ◌++◌, length, length-append, Some, None, refl, sym, ap, subst, arith}
use Rattle.std.proofs.lemmas.Bool.Decides.{nat_tests}
use Rattle.pc_types.specs.declared.Event.{Event}
use Rattle.pc_types.specs.declared.Event.TheVariants as asked
use Rattle.pc_types.specs.declared.Phase.{Phase}
use Rattle.pc_types.specs.declared.Phase.TheVariants as phase
use Rattle.pc_types.specs.declared.Class.{Class}
use Rattle.pc_types.specs.declared.Class.TheVariants.{Before, During, After}
use Rattle.pc_types.specs.declared.Reply.{Reply}
use Rattle.pc_types.specs.declared.Reply.TheVariants as told
use Rattle.pc_types.specs.declared.Refusal.{Refusal}
use Rattle.pc_types.specs.declared.Refusal.TheVariants as why
use Rattle.pc_types.specs.declared.limits.TheConstants.{MOST_FILES, MOST_LOG_ENTRIES, MOST_POINTS}
use Rattle.pc_model.specs.Files.{shelf}
use Rattle.pc_model.specs.History.{History, Effect, effect, effect_of, entries_by, log_of, point_of}
use Rattle.pc_model.specs.History.Effect.{Commits, Moves, Shelves}
use Rattle.pc_model.specs.LegalEffects.{IsIdle, IsIdleIfAny}
use Rattle.pc_model.specs.Replies.{Setting, Answers, IsLegal, IsLegalHistory, certain, closed_set, first_refusal, held_back_reply, is_in_phase, log_is_full, not_yet, or_else, transaction_causes, wrong_phase}
use Rattle.pc_model.proofs.EffectCases.{begin_case, get_case, write_case, add_case, abort_case, take_case, join_case}
use Rattle.pc_model.proofs.EffectLaws.{no_first, no_others}
use Rattle.pc_model.proofs.LegalEffectLaws.{causes_idle, held_back_idle, not_yet_does_nothing, or_else_idle, or_else_none, settled}

-- an effect adds at most one entry
one_entry : (e : Effect) (h : History) → length (entries_by e h) ≤ 1
one_entry (Commits s) h = omega arith
one_entry (Moves to point) h = omega arith
one_entry (Shelves point) h = omega arith
one_entry other h = omega arith

-- if the log has no place left, the effect adds none
abbrev Keeps : History → Effect → Type 0
Keeps h e = log_is_full h ≡ true → entries_by e h ≡ []

not_both : {X : Type 0} (b : Bool) → b ≡ false → b ≡ true → X
not_both true isnt is = absurd (let bad : true ≡ false = isnt in cc)
not_both false isnt is = absurd (let bad : false ≡ true = is in cc)

not_yet_idle : (count : ℕ) → IsIdleIfAny (not_yet count)
not_yet_idle count = by (eqb count 0)
  where
    by : (b : Bool) → IsIdleIfAny (cond b None (Some (told.NotYet count)))
    by true = tt
    by false = λ event. not_yet_does_nothing event count

-- the causes with that of a full log after them
abbrev with_full : List (Bool × Refusal) → History → List (Bool × Refusal)
with_full causes h = causes ++ (log_is_full h, why.LogFull) ∷ []

not_full : (causes : List (Bool × Refusal)) (h : History) → first_refusal (with_full causes h) ≡ None → log_is_full h ≡ false
not_full causes h none = no_first (log_is_full h, why.LogFull) [] (no_others causes ((log_is_full h, why.LogFull) ∷ []) none)

module _ (st : Setting) (h : History) where
  idle_keeps : (event : Event) (reply : Reply) → IsIdle reply → Keeps h (effect_of event reply)
  idle_keeps event reply idle = subst (Keeps h) (sym (idle event)) (λ full. refl)

  -- a reply that is certain does nothing, and if none is the log has a place
  placed : (event : Event) (reply : Reply) → IsIdleIfAny (certain st h event) → (certain st h event ≡ None → log_is_full h ≡ false) → IsLegal st h event reply → Keeps h (effect_of event reply)
  placed event reply idle room legal = by (settled (certain st h event) (Answers st h event reply) reply idle legal)
    where
      by : ((certain st h event ≡ None) × Answers st h event reply) ⊎ IsIdle reply → Keeps h (effect_of event reply)
      by (inl answered) = λ full. not_both (log_is_full h) (room answered.0) full
      by (inr nothing) = idle_keeps event reply nothing

  held : (from : Phase) (class : Class) → held_back_reply st from class h ≡ None → log_is_full h ≡ false
  held from class none = not_full [] h (or_else_none _ _ (or_else_none (wrong_phase from h) _ none).1).1

  pub done_idle : IsIdleIfAny (certain st h asked.Done)
  done_idle =
      let causes = with_full ((eqb (length (shelf st.run h)) MOST_FILES, why.ShelfFull) ∷ []) h in
      let count = not_yet (length (closed_set h)) in
      or_else_idle (wrong_phase phase.Capture h) (or_else count (first_refusal causes)) (causes_idle ((not (is_in_phase phase.Capture h), why.WrongPhase) ∷ []))
      (or_else_idle count (first_refusal causes) (not_yet_idle (length (closed_set h))) (causes_idle causes))

  pub keeps : (event : Event) (reply : Reply) → IsLegal st h event reply → Keeps h (effect_of event reply)
  keeps (asked.Begin s) reply legal = begin_case (Keeps h) (λ full. refl) s reply (λ counts full. refl)
  keeps (asked.Get s key) reply legal = get_case (Keeps h) (λ full. refl) s key reply (λ answer counts full. refl) (λ full. refl) (λ full. refl)
  keeps (asked.Put s key value) reply legal = write_case (Keeps h) (λ full. refl) s key (Some value) reply (λ counts full. refl) (λ full. refl) (λ full. refl)
  keeps (asked.Del s key) reply legal = write_case (Keeps h) (λ full. refl) s key None reply (λ counts full. refl) (λ full. refl) (λ full. refl)
  keeps (asked.Add s key delta) reply legal = add_case (Keeps h) (λ full. refl) s key delta reply (λ sum counts full. refl) (λ full. refl) (λ full. refl)
  keeps (asked.Commit s) reply legal = placed (asked.Commit s) reply (causes_idle (with_full (transaction_causes st s h) h)) (not_full (transaction_causes st s h) h) legal
  keeps (asked.Abort s) reply legal = abort_case (Keeps h) (λ full. refl) s reply (λ counts full. refl)
  keeps asked.StartPoint reply legal =
      let causes = (eqb (point_of h) MOST_POINTS, why.PointsFull) ∷ [] in
      let wrong = (not (is_in_phase phase.Rest h), why.WrongPhase) ∷ [] in
      placed asked.StartPoint reply (or_else_idle (wrong_phase phase.Rest h) (first_refusal (with_full causes h)) (causes_idle wrong) (causes_idle (with_full causes h)))
      (λ none. not_full causes h (or_else_none (wrong_phase phase.Rest h) _ none).1) legal
  keeps asked.Seal reply legal = placed asked.Seal reply (held_back_idle st phase.Prepare Before h) (held phase.Prepare Before) legal
  keeps asked.OpenCapture reply legal = placed asked.OpenCapture reply (held_back_idle st phase.Resolve During h) (held phase.Resolve During) legal
  keeps asked.Take reply legal = take_case (Keeps h) (λ full. refl) reply (λ key content full. refl)
  keeps asked.Done reply legal =
      let causes = (eqb (length (shelf st.run h)) MOST_FILES, why.ShelfFull) ∷ [] in
      let wrong = (not (is_in_phase phase.Capture h), why.WrongPhase) ∷ [] in
      let count = not_yet (length (closed_set h)) in
      placed asked.Done reply
      (or_else_idle (wrong_phase phase.Capture h) (or_else count (first_refusal (with_full causes h))) (causes_idle wrong)
      (or_else_idle count (first_refusal (with_full causes h)) (not_yet_idle (length (closed_set h))) (causes_idle (with_full causes h))))
      (λ none. not_full causes h (or_else_none count _ (or_else_none (wrong_phase phase.Capture h) _ none).1).1) legal
  keeps asked.Rest reply legal = placed asked.Rest reply (held_back_idle st phase.Complete After h) (held phase.Complete After) legal
  keeps (asked.Join a b) reply legal = join_case (Keeps h) (λ full. refl) a b reply (λ full. refl)

-- a legal history's log has no more entries than it may
pub log_within : (st : Setting) (h : History) → IsLegalHistory st h → length (log_of h) ≤ MOST_LOG_ENTRIES
log_within st [] legal = omega arith
log_within st (step ∷ h) legal = by (log_is_full h) refl (log_within st h legal.1)
  where
    added : length (log_of (step ∷ h)) ≡ length (log_of h) + length (entries_by (effect step) h)
    added = length-append (log_of h) (entries_by (effect step) h)

    by : (b : Bool) → log_is_full h ≡ b → length (log_of h) ≤ MOST_LOG_ENTRIES → length (log_of (step ∷ h)) ≤ MOST_LOG_ENTRIES
    by true full few = let none : length (entries_by (effect step) h) ≡ 0 = ap length (keeps st h step.event step.reply legal.0 full) in omega (arith, added, none, few)
    by false room few =
        let one = one_entry (effect step) h in
        let below : length (log_of h) + 1 ≤ MOST_LOG_ENTRIES = grind (arith, nat_tests, room, few) in
        omega (arith, added, one, below)

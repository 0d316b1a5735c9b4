-- The table of changes agrees with the rules of replies.
use Rattle.std.proofs.Common.{◌≡◌, ◌==◌, Bool, true, false, List, [], ◌∷◌, length, Some, refl, sym, ap, subst, ◌∙◌, ◌+◌}
use Rattle.std.specs.Prelude.{option_map, if◌then◌else◌, not}
use Rattle.pc_types.specs.declared.Phase.TheVariants as phase
use Rattle.pc_types.specs.declared.Class.TheVariants.{Before, During, After}
use Rattle.pc_types.specs.declared.Reply.{Reply}
use Rattle.pc_types.specs.declared.Refusal.{Refusal}
use Rattle.pc_types.specs.declared.Refusal.TheVariants as why
use Rattle.pc_model.specs.Replies.{first_refusal, or_else, closed_set, active_in_class, is_in_phase, log_is_full}
use Rattle.pc_model.specs.History.{point_of}
use Rattle.pc_phase.specs.declared.change.Change.TheVariants as change
use Rattle.pc_phase.specs.declared.change.Held.TheVariants.{WrongPhase, PointsFull}
use Rattle.pc_phase.specs.Phases.{Phases, active_count, advanced, some_left}
use Rattle.pc_phase.specs.declared.change.Change.{Change}
use Rattle.pc_types.specs.declared.Class.{Class}
use Rattle.pc_types.specs.declared.Event.TheVariants as asked
use Rattle.pc_phase.specs.Agreement.{reply_of, later_causes, AreOf, HeldBackIsCertain, ChangesStayOf}
use Rattle.pc_phase.proofs.PhaseLaws.{count_agrees}

-- no point is left
point_agrees : (is full : Bool) (later : List (Bool × Refusal)) →
    or_else (first_refusal ((not is, why.WrongPhase) ∷ [])) (first_refusal ((full, why.PointsFull) ∷ later)) ≡ or_else (option_map reply_of (if is then (if full then Some PointsFull else some_left 0) else Some WrongPhase)) (first_refusal later)
point_agrees false full later = refl
point_agrees true true later = refl
point_agrees true false later = refl

pub held_back_is_certain : HeldBackIsCertain
held_back_is_certain st history phases change.StartPoint are =
    rw (are.phase, are.point) (point_agrees (is_in_phase phase.Rest history) (point_of history == 65535) ((log_is_full history, why.LogFull) ∷ []))
held_back_is_certain st history phases change.Seal are =
    rw (are.phase, are.active Before) (count_agrees (is_in_phase phase.Prepare history) (active_in_class st Before history) (first_refusal (later_causes st change.Seal history)))
held_back_is_certain st history phases change.OpenCapture are =
    rw (are.phase, are.active During) (count_agrees (is_in_phase phase.Resolve history) (active_in_class st During history) (first_refusal (later_causes st change.OpenCapture history)))
held_back_is_certain st history phases change.Done are =
    rw are.phase (count_agrees (is_in_phase phase.Capture history) (length (closed_set history)) (first_refusal (later_causes st change.Done history)))
held_back_is_certain st history phases change.Rest are =
    rw (are.phase, are.active After) (count_agrees (is_in_phase phase.Complete history) (active_in_class st After history) (first_refusal (later_causes st change.Rest history)))

-- a change leaves the counts alone
counts_stay : (phases : Phases) (change : Change) (class : Class) → active_count (advanced phases change) class ≡ active_count phases class
counts_stay phases change Before = refl
counts_stay phases change During = refl
counts_stay phases change After = refl

pub changes_stay_of : ChangesStayOf
changes_stay_of st history phases change.StartPoint reply are answered =
    subst (λ (r : Reply). AreOf st (record { event = asked.StartPoint; reply = r } ∷ history) (advanced phases change.StartPoint)) (sym answered)
    (record { phase = refl; point = ap (λ n. n + 1) are.point; active = λ class. counts_stay phases change.StartPoint class ∙ are.active class })
changes_stay_of st history phases change.Seal reply are answered =
    subst (λ (r : Reply). AreOf st (record { event = asked.Seal; reply = r } ∷ history) (advanced phases change.Seal)) (sym answered)
    (record { phase = refl; point = are.point; active = λ class. counts_stay phases change.Seal class ∙ are.active class })
changes_stay_of st history phases change.OpenCapture reply are answered =
    subst (λ (r : Reply). AreOf st (record { event = asked.OpenCapture; reply = r } ∷ history) (advanced phases change.OpenCapture)) (sym answered)
    (record { phase = refl; point = are.point; active = λ class. counts_stay phases change.OpenCapture class ∙ are.active class })
changes_stay_of st history phases change.Done reply are answered =
    subst (λ (r : Reply). AreOf st (record { event = asked.Done; reply = r } ∷ history) (advanced phases change.Done)) (sym answered)
    (record { phase = refl; point = are.point; active = λ class. counts_stay phases change.Done class ∙ are.active class })
changes_stay_of st history phases change.Rest reply are answered =
    subst (λ (r : Reply). AreOf st (record { event = asked.Rest; reply = r } ∷ history) (advanced phases change.Rest)) (sym answered)
    (record { phase = refl; point = are.point; active = λ class. counts_stay phases change.Rest class ∙ are.active class })

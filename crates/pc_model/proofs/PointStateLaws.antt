-- While keys may be left to take, the state of the point stays.
use Rattle.std.proofs.Common.{◌≡◌, ℕ, List, [], ◌∷◌, ◌++◌, inr, subst, refl, sym, ap, ◌∙◌, Bool, true, false}
use Rattle.pc_types.specs.declared.Entry.{Entry}
use Rattle.pc_types.specs.declared.Entry.TheVariants.{Commit, Token}
use Rattle.pc_types.specs.declared.Phase.{Phase}
use Rattle.pc_types.specs.declared.Phase.TheVariants.{Rest, Prepare, Resolve, Capture, Complete}
use Rattle.pc_types.specs.declared.Step.{Step}
use Rattle.pc_model.specs.Log.{state_at}
use Rattle.pc_model.specs.History.{History, Effect, effect, log_of, writes_of, phase_of, point_of, entries_by, point_by, contents}
use Rattle.pc_model.specs.History.Effect.{Commits, Moves, Shelves}
use Rattle.pc_model.specs.Replies.{Setting, open_set}
use Rattle.pc_model.specs.Headline.{is_taking, taken_keys}
use Rattle.pc_model.specs.Standing.{HasLegalEffects, is_past_token}
use Rattle.pc_model.proofs.LogPieceLaws.{state_at_kept}
use Rattle.pc_model.proofs.LegalEffectLaws.{effect_fits}
use Rattle.pc_model.specs.LegalEffects.{Fits}
use Rattle.pc_model.proofs.StandingLaws.{HasStanding, has_standing, in_phase, past_token}
use Rattle.pc_model.proofs.LogLaws.{after-append}
use Rattle.pc_model.proofs.Tokens.{lacks_own}
use Rattle.pc_model.proofs.QuietContents.{at_token}

past_of : (phase : Phase) → is_taking phase ≡ true → is_past_token phase ≡ true
past_of Resolve e = refl
past_of Capture e = refl
past_of other e = cc

no : {X : Type 0} (phase other : Phase) → phase ≡ other → is_taking other ≡ false → is_taking phase ≡ true → X
no phase other is idle taking = absurd (apart (is_taking phase) (ap is_taking is ∙ idle) taking)
  where
    apart : (b : Bool) → b ≡ false → b ≡ true → ⊥
    apart true f t = cc
    apart false f t = cc

module _ (st : Setting) (h : History) (legal : HasLegalEffects st h) (taking : is_taking (phase_of h) ≡ true) where
  -- what is logged after the point's token leaves its state
  kept : (more : List Entry) → state_at st.base (log_of h ++ more) (point_of h) ≡ state_at st.base (log_of h) (point_of h)
  kept more = state_at_kept st.base (point_of h) (log_of h) more (inr (past_token st h legal (past_of (phase_of h) taking)))

  by_effect : (e : Effect) → Fits st h e → state_at st.base (log_of h ++ entries_by e h) (point_by e (point_of h)) ≡ state_at st.base (log_of h) (point_of h)
  by_effect (Commits s) fits = kept (Commit s (writes_of s h) ∷ [])
  by_effect (Moves Rest n) fits = no (phase_of h) Complete fits.0 refl taking
  by_effect (Moves Prepare n) fits = no (phase_of h) Rest fits.0 refl taking
  by_effect (Moves Resolve n) fits = no (phase_of h) Prepare fits.0 refl taking
  by_effect (Moves Capture n) fits = rw fits.1 (kept (Token Capture (point_of h) ∷ []))
  by_effect (Moves Complete n) fits = absurd fits
  by_effect (Shelves n) fits = rw fits.1 (kept (Token Complete (point_of h) ∷ []))
  by_effect other fits = kept []

pub state_stays : (st : Setting) (h : History) (step : Step) → HasLegalEffects st (step ∷ h) → is_taking (phase_of h) ≡ true →
    state_at st.base (log_of (step ∷ h)) (point_of (step ∷ h)) ≡ state_at st.base (log_of h) (point_of h)
state_stays st h step legal taking = by_effect st h legal.1 taking (effect step) (effect_fits st h step.event step.reply legal.0)

-- at the point of consistency its state is what was committed
pub sealed_state : (st : Setting) (h : History) (step : Step) → HasLegalEffects st (step ∷ h) → (n : ℕ) → effect step ≡ Moves Resolve n → state_at st.base (log_of (step ∷ h)) (point_of (step ∷ h)) ≡ contents st.base h
sealed_state st h step legal n is = by_effect (effect step) is (effect_fits st h step.event step.reply legal.0)
  where
    s : HasStanding h
    s = has_standing st h legal.1

    by_effect : (e : Effect) → e ≡ Moves Resolve n → Fits st h e → state_at st.base (log_of h ++ entries_by e h) (point_by e (point_of h)) ≡ contents st.base h
    by_effect e is fits = rw is (at_seal (let P : Effect → Type 0 = Fits st h in subst P is fits))
      where
        at_seal : Fits st h (Moves Resolve n) → state_at st.base (log_of h ++ Token Resolve n ∷ []) n ≡ contents st.base h
        at_seal fits =
            let begun = in_phase h s Prepare fits.0 in
            rw fits.1 (sym (at_token st.base (point_of h) (log_of h) (begun.begun refl) (lacks_own (point_of h) (log_of h) (open_set h) (taken_keys h) begun)) ∙ after-append st.base (log_of h) (Token Resolve (point_of h) ∷ []))

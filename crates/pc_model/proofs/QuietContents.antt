-- In a quiet run the committed contents are those of the point from its token to the end of its cycle.
use Rattle.std.proofs.Common.{◌≡◌, ℕ, ◌≤◌, List, [], ◌∷◌, ◌++◌, append-nil, eqb, not, ◌||◌, ◌&&◌, refl, sym, ap, ◌∙◌, Bool, true, false, inr, arith}
use Rattle.std.specs.Prelude.{if◌then◌else◌}
use Rattle.std.proofs.lemmas.Bool.Decides.{nat_tests}
use Rattle.pc_types.specs.declared.Entry.{Entry}
use Rattle.pc_types.specs.declared.Entry.TheVariants.{Token}
use Rattle.pc_types.specs.declared.Phase.TheVariants.{Rest, Prepare, Resolve, Capture, Complete}
use Rattle.pc_model.specs.Database.{Database}
use Rattle.pc_model.specs.Log.{after, front, has_token, state_at}
use Rattle.pc_model.specs.History.{History, Effect, effect, log_of, phase_of, point_of, entries_by, phase_by, point_by, contents}
use Rattle.pc_model.specs.History.Effect.{Commits, Moves, Shelves}
use Rattle.pc_model.specs.Replies.{Setting, is_in_phase, open_set}
use Rattle.pc_model.specs.LegalEffects.{some_active, Fits}
use Rattle.pc_model.specs.Quiet.{IsQuiet, is_quiet}
use Rattle.pc_model.specs.Standing.{HasLegalEffects, is_past_token}
use Rattle.pc_model.proofs.LogLaws.{after-append}
use Rattle.pc_model.proofs.LogPieceLaws.{front_past, state_at_kept}
use Rattle.pc_model.proofs.LegalEffectLaws.{effect_fits, one_phase}
use Rattle.pc_model.proofs.Tokens.{lacks_own}
use Rattle.pc_model.specs.Headline.{taken_keys}
use Rattle.pc_model.proofs.StandingLaws.{has_standing, in_phase, past_token}

both : (a b : Bool) → (a && b) ≡ true → (a ≡ true) × (b ≡ true)
both true b e = (refl, e)
both false b e = cc

-- in a quiet run a transaction is active in rest alone
quiet_now : (st : Setting) (h : History) → IsQuiet st h → (is_in_phase Rest h || not (some_active st h)) ≡ true
quiet_now st [] quiet = refl
quiet_now st (step ∷ h) quiet = (both (is_in_phase Rest (step ∷ h) || not (some_active st (step ∷ h))) (is_quiet st h) quiet).0

pub quiet_before : (st : Setting) (h : History) → (b : Bool) → (b && is_quiet st h) ≡ true → IsQuiet st h
quiet_before st h b quiet = (both b (is_quiet st h) quiet).1

-- an active transaction of a quiet run is in rest
pub active_in_rest : (st : Setting) (h : History) → IsQuiet st h → some_active st h ≡ true → phase_of h ≡ Rest
active_in_rest st h quiet active = one_phase (phase_of h) Rest (by_rest (is_in_phase Rest h) (sym (ap (λ b. is_in_phase Rest h || not b) active) ∙ quiet_now st h quiet))
  where
    by_rest : (b : Bool) → (b || false) ≡ true → b ≡ true
    by_rest true e = refl
    by_rest false e = cc

-- at its token the state of the point is what was committed
pub at_token : (base : Database) (n : ℕ) (log : List Entry) → 1 ≤ n → has_token n log ≡ false → after base (log ++ Token Resolve n ∷ []) ≡ state_at base (log ++ Token Resolve n ∷ []) n
at_token base n log low lacks =
    let other : eqb n 0 ≡ false = grind (arith, nat_tests) in
    let own : eqb n n ≡ true = grind (arith, nat_tests) in
    let piece : front n (log ++ Token Resolve n ∷ []) ≡ log = front_past n log (Token Resolve n ∷ []) lacks ∙ ap (λ b. log ++ (if b then [] else Token Resolve n ∷ [])) own ∙ append-nil log in
    after-append base log (Token Resolve n ∷ []) ∙ sym (ap (λ b. if b then base else after base (front n (log ++ Token Resolve n ∷ []))) other ∙ ap (after base) piece)

module _ (st : Setting) (h : History) (legal : HasLegalEffects st h) (quiet : IsQuiet st h) (before : is_past_token (phase_of h) ≡ true → contents st.base h ≡ state_at st.base (log_of h) (point_of h)) where
  -- entries without a commit leave the contents, and the state of the point
  stays : (more : List Entry) → ((db : Database) → after db more ≡ db) → is_past_token (phase_of h) ≡ true → after st.base (log_of h ++ more) ≡ state_at st.base (log_of h ++ more) (point_of h)
  stays more none past = after-append st.base (log_of h) more ∙ none (after st.base (log_of h)) ∙ before past ∙ sym (state_at_kept st.base (point_of h) (log_of h) more (inr (past_token st h legal past)))

  quiet_by : (e : Effect) → Fits st h e → is_past_token (phase_by e (phase_of h)) ≡ true → after st.base (log_of h ++ entries_by e h) ≡ state_at st.base (log_of h ++ entries_by e h) (point_by e (point_of h))
  quiet_by (Commits session) fits past = absurd (no_past (ap is_past_token (active_in_rest st h quiet fits)) past)
    where
      no_past : {b : Bool} → b ≡ false → b ≡ true → ⊥
      no_past e f = cc
  quiet_by (Moves Rest n) fits past = cc
  quiet_by (Moves Prepare n) fits past = cc
  quiet_by (Moves Resolve n) fits past =
      let s = in_phase h (has_standing st h legal) Prepare fits.0 in
      rw fits.1 (at_token st.base (point_of h) (log_of h) (s.begun refl) (lacks_own (point_of h) (log_of h) (open_set h) (taken_keys h) s))
  quiet_by (Moves Capture n) fits past = rw fits.1 (stays (Token Capture (point_of h) ∷ []) (λ db. refl) (ap is_past_token fits.0))
  quiet_by (Moves Complete n) fits past = absurd fits
  quiet_by (Shelves n) fits past = rw fits.1 (stays (Token Complete (point_of h) ∷ []) (λ db. refl) (ap is_past_token fits.0))
  quiet_by other fits past = stays [] (λ db. refl) past

-- in a quiet run the committed contents are those of the point until its cycle ends
pub quiet_contents : (st : Setting) (h : History) → HasLegalEffects st h → IsQuiet st h → is_past_token (phase_of h) ≡ true → contents st.base h ≡ state_at st.base (log_of h) (point_of h)
quiet_contents st [] legal quiet past = cc
quiet_contents st (step ∷ h) legal quiet past =
    let earlier = quiet_before st h _ quiet in
    quiet_by st h legal.1 earlier (quiet_contents st h legal.1 earlier) (effect step) (effect_fits st h step.event step.reply legal.0) past

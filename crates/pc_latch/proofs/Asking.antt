-- The answers to a session.
use Rattle.std.proofs.Common.{◌≡◌, ℕ, subst}
use Rattle.pc_types.specs.declared.Event.{Event}
use Rattle.pc_types.specs.declared.Reply.{Reply}
use Rattle.pc_types.specs.declared.Step.{Step}
use Rattle.pc_model.specs.History.{History}
use Rattle.pc_model.specs.Replies.{Setting, IsLegal, IsLegalHistory}
use Rattle.pc_model.specs.Calls.{step_of, HasCallsOf}
use Rattle.pc_engine.specs.Store.{Store, setting_of}
use Rattle.pc_engine.specs.Stands.{Stands, Follows}
use Rattle.pc_tie.specs.declared.sight.Sitting.{Sitting}
use Rattle.pc_tie.specs.Seats.{MovesOn}
use Rattle.pc_latch.specs.Asked.{IsAsked}

-- a call with the session's number
pub asked : (st : Setting) (old new : Store) (hist : History) (n : ℕ) (before after : Sitting) (E : ℕ → Event) (reply : Reply) (step : Step) → step ≡ step_of (E n) reply → n ≡ before.number → Stands old hist → setting_of old ≡ st → Follows (setting_of old) hist (E n) reply new →
    HasCallsOf hist before.number before.seen → after.number ≡ before.number → MovesOn st before.seen step after.seen → IsAsked st before (E before.number) reply after
asked st old new hist n before after E reply step said own stands is follows knew same moves = record {
  number = same;
  moves = subst (λ (m : ℕ). MovesOn st before.seen (step_of (E m) reply) after.seen) own (subst (λ (c : Step). MovesOn st before.seen c after.seen) said moves);
  answered = (
    hist,
    subst (λ (t : Setting). IsLegalHistory t hist) is stands.legal,
    knew,
    subst (λ (y : Setting × ℕ). IsLegal y.0 hist (E y.1) reply) (λ k. (is k, own k)) follows.legal,
  );
}

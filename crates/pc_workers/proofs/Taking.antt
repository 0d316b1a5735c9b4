-- The state after a turn of takes.
use Rattle.std.proofs.Common.{◌≡◌, ℕ, zero, suc, refl, ◌∙◌, subst}
use Rattle.pc_types.specs.declared.Phase.TheVariants.{Capture}
use Rattle.pc_types.specs.declared.Refusal.{Refusal}
use Rattle.pc_types.specs.declared.Reply.TheVariants as told
use Rattle.pc_model.specs.Calls.{IsBeginning}
use Rattle.pc_model.specs.History.{History, phase_of}
use Rattle.pc_model.specs.Replies.{Setting, IsLegalHistory}
use Rattle.pc_latch.specs.Cycles.{IsTakeCalled}
use Rattle.pc_shared.specs.Takes.{HasTaken, HasEndedTakes, IsTurnOfTakes}
use Rattle.pc_shared.specs.declared.takes.Takes.{Takes}
use Rattle.pc_shared.specs.declared.takes.TakesEnd.{TakesEnd}
use Rattle.pc_shared.specs.declared.takes.TakesEnd.TheVariants as ended
use Rattle.pc_workers.specs.Checkpointing.{HasStood, IsHeldUp, Shows}
use Rattle.pc_workers.proofs.Cycling.{stood_same, took, take_refused, stood_on, held_on}
use Rattle.pc_workers.proofs.ShownLaws.{shows_take}

module _ (st : Setting) where
  taken_stood : (keys : ℕ) (before after : History) → HasTaken st keys before after → HasStood st before after
  taken_stood zero before after same = stood_same st before after same
  taken_stood (suc keys) before after (between, earlier, (key, content, called)) =
      stood_on st before between after (taken_stood keys before between earlier) (took st between after (told.Took key content) called)

  end_stood : (most keys : ℕ) (end : TakesEnd) (before after : History) → HasEndedTakes st most keys end before after → HasStood st before after
  end_stood most keys ended.Enough before after is = stood_same st before after is.1
  end_stood most keys ended.NoneLeft before after is = took st before after told.NoneLeft is.1
  end_stood most keys (ended.Refused why) before after is = took st before after (told.Refused why) is.1

  module _ (most : ℕ) (before after : History) (takes : Takes) (turn : IsTurnOfTakes st most before takes after) where
    -- no phase was entered
    pub turn_stood : HasStood st before after
    turn_stood = stood_on st before turn.between after (taken_stood takes.keys before turn.between turn.taken) (end_stood most takes.keys takes.end turn.between after turn.ended)

    module _ (why : Refusal) (is : takes.end ≡ ended.Refused why) where
      refused : IsTakeCalled st turn.between (told.Refused why) after
      refused = (subst (λ (e : TakesEnd). HasEndedTakes st most takes.keys e turn.between after) is turn.ended).1

      -- it was held up if a take was refused
      pub turn_held_up : phase_of before ≡ Capture → IsHeldUp st before after why
      turn_held_up capture =
          let stood = taken_stood takes.keys before turn.between turn.taken in
          held_on st before turn.between after why stood (take_refused st turn.between after (told.Refused why) why (stood.in_phase ∙ capture) refl refused)

      -- and a later witness shows that
      pub turn_shows : (seen shown : History) → IsLegalHistory st shown → IsBeginning seen shown → Shows st seen why shown
      turn_shows seen shown legal had_seen = shows_take st turn.between after seen shown (told.Refused why) why refl refused legal had_seen

-- The history that the checkpointer has seen after a call.
use Rattle.std.proofs.Common.{◌≡◌, ◌∷◌, ◌++◌, Bool, true, false, cond, [], sym, subst}
use Rattle.pc_types.specs.declared.Step.{Step}
use Rattle.pc_types.specs.declared.Event.{Event}
use Rattle.pc_types.specs.declared.Reply.{Reply}
use Rattle.pc_model.specs.Database.{Database}
use Rattle.pc_model.specs.History.{History, phase_of}
use Rattle.pc_model.specs.Headline.{TakesPointValue}
use Rattle.pc_model.specs.Replies.{Setting, IsLegal, IsLegalHistory}
use Rattle.pc_model.specs.Calls.{step_of, counts, IsBeginning, HasCallsOf}
use Rattle.pc_tie.specs.Rules.{sight_after}
use Rattle.pc_tie.specs.Seats.{MovesOn}
use Rattle.pc_latch.specs.Cycles.{next_event, IsCalled, IsAdvance}
use Rattle.pc_latch.proofs.CycleLaws.{phase_known}

values_before : (base : Database) (since early : History) → TakesPointValue base (since ++ early) → TakesPointValue base early
values_before base [] early values = values
values_before base (c ∷ since) early values = values_before base since early values.1

values_after : (base : Database) (c : Step) (hist seen after : History) → after ≡ sight_after c hist seen → TakesPointValue base (c ∷ hist) → IsBeginning seen hist → TakesPointValue base after
values_after base c hist seen after is values begins = subst (TakesPointValue base) (sym is) (by_case (counts c.reply))
  where
    by_case : (b : Bool) → TakesPointValue base (cond b (c ∷ hist) seen)
    by_case true = values
    by_case false = values_before base begins.0 seen (subst (TakesPointValue base) begins.1 values.1)

pub called : (st : Setting) (hist seen after : History) (event : Event) (reply : Reply) (step : Step) → step ≡ step_of event reply → IsLegalHistory st hist → IsLegal st hist event reply → TakesPointValue st.base (step_of event reply ∷ hist) → HasCallsOf hist 0 seen
    → after ≡ sight_after step hist seen → MovesOn st seen step after → IsCalled st seen event reply after
called st hist seen after event reply step said legal is values knew sees moves = record {
  moves = subst (λ (c : Step). MovesOn st seen c after) said moves;
  answered = (hist, legal, knew, is);
  values = values_after st.base (step_of event reply) hist seen after (subst (λ (c : Step). after ≡ sight_after c hist seen) said sees) values knew.0;
}

-- the phase is the one that the checkpointer has seen
pub advanced : (st : Setting) (hist seen after : History) (reply : Reply) → HasCallsOf hist 0 seen → IsCalled st seen (next_event (phase_of hist)) reply after → IsAdvance st seen reply after
advanced st hist seen after reply knew is = subst (λ p. IsCalled st seen (next_event p) reply after) (phase_known hist seen knew) is

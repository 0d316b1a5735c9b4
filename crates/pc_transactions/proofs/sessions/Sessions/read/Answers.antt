use Rattle.std.proofs.Common.{◌-◌, ◌∙◌, ap, sym}
use Rattle.pc_types.specs.declared.Mode.TheVariants.{Shared}
use Rattle.pc_model.specs.Locks.{outcome}
use Rattle.pc_model.specs.Replies.{read_reply}
use Rattle.pc_records.specs.Rows.{requests_on, record_of}
use Rattle.pc_transactions.proofs.SessionLemmas.{is_there}
use Rattle.pc_transactions.proofs.Together.{read_granted}
use Rattle.pc_transactions.proofs.OngoingLaws.{read_stands, dead_stands}
use Rattle.pc_transactions.proofs.sessions.Sessions.read.Goals as goal

pub invariant_of-self-in-Granted : goal.invariant_of-self-in-Granted
invariant_of-self-in-Granted c = read_stands _ _ _ _ c.self.invariant _ _ _ _ c.in_ok-outcome.ensures.rows

pub invariant_of-self-in-Queued : goal.invariant_of-self-in-Queued
invariant_of-self-in-Queued c = read_stands _ _ _ _ c.self.invariant _ _ _ _ c.in_ok-outcome.ensures.rows

pub invariant_of-self-in-Queued-2 : goal.invariant_of-self-in-Queued-2
invariant_of-self-in-Queued-2 c = read_stands _ _ _ _ c.self.invariant _ _ _ _ c.in_ok-outcome.ensures.rows

pub invariant_of-self-in-Queued-3 : goal.invariant_of-self-in-Queued-3
invariant_of-self-in-Queued-3 c = read_stands _ _ _ _ c.self.invariant _ _ _ _ c.in_ok-outcome.ensures.rows

pub invariant_of-self-in-Died : goal.invariant_of-self-in-Died
invariant_of-self-in-Died c = dead_stands _ _ _ _ c.self.invariant _ _ (c.args.session - 1) _ _ _ (rw (← c.self.view_is) at c.requires.place) c.note_death.ensures c.in_ok-outcome.ensures.rows

pub invariant_of-self-in-Died-2 : goal.invariant_of-self-in-Died-2
invariant_of-self-in-Died-2 c = dead_stands _ _ _ _ c.self.invariant _ _ (c.args.session - 1) _ _ _ (rw (← c.self.view_is) at c.requires.place) c.note_death.ensures c.in_ok-outcome.ensures.rows

pub invariant_of-self-in-Died-3 : goal.invariant_of-self-in-Died-3
invariant_of-self-in-Died-3 c = dead_stands _ _ _ _ c.self.invariant _ _ (c.args.session - 1) _ _ _ (rw (← c.self.view_is) at c.requires.place) c.note_death.ensures c.in_ok-outcome.ensures.rows

pub returns-in-Granted-clause-reply : goal.returns-in-Granted-clause-reply
returns-in-Granted-clause-reply c =
    let number = rw c.as_slice.ensures.value at c.number-number.ensures in
    rw (← c.self.view_is)
    (read_granted c.self.inside.records _ c.self.inside.begun (c.args.session - 1) c.number-number.result _ _ _ (record { writes = c.self.invariant.hold.writes; numbers = c.self.invariant.hold.numbers })
    (is_there _ (rw (← c.self.view_is) at c.requires.opened)) (sym c.in-Granted.is ∙ c.in_ok-outcome.ensures.told ∙ ap (λ n. outcome (requests_on (record_of c.self.inside.records.rows c.args.key.now)) n Shared) number) number (c.in_ok-outcome.ensures.clear c.in-Granted.is)
    (c.answer.ensures ∙ ap read_reply c.in_ok-outcome.ensures.found))

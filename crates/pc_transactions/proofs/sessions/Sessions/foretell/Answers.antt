use Rattle.std.proofs.Common.{◌-◌, ◌∙◌, ap, sym}
use Rattle.std.specs.Int.{w64}
use Rattle.std.specs.Option.{option_copied}
use Rattle.std.proofs.lemmas.Int.{to_z-of_z}
use Rattle.pc_types.specs.declared.Mode.TheVariants.{Exclusive}
use Rattle.pc_model.specs.Locks.{outcome}
use Rattle.pc_records.specs.Rows.{requests_on, record_of}
use Rattle.pc_records.specs.RowSteps.{is_waiting_in_rows}
use Rattle.pc_transactions.proofs.Foretelling.{goes_over, refused_over}
use Rattle.pc_transactions.proofs.SessionLemmas.{is_there}
use Rattle.pc_transactions.proofs.Together.{seen_granted}
use Rattle.pc_transactions.proofs.sessions.Sessions.foretell.Goals as goal

pub returns-in-Err-clause-refused : goal.returns-in-Err-clause-refused
returns-in-Err-clause-refused c =
    let number = rw c.as_slice.ensures.value at c.number-number.ensures in
    let ready = ap (is_waiting_in_rows c.self.inside.records.rows) number ∙ (rw (← c.self.view_is) at c.requires.ready) in
    rw (← c.self.view_is)
    (refused_over _ c.look-outcome.result.outcome _ (option_copied c.look-outcome.result.found) _ _ c.args.delta (sym (rw (← c.self.view_is) at c.lacks_room.ensures) ∙ c.if-lacks_room.false)
    (c.look-outcome.ensures.told ∙ ap (λ n. outcome (requests_on (record_of c.self.inside.records.rows c.args.key.now)) n Exclusive) number)
    (λ granted. seen_granted c.self.inside.records _ c.self.inside.begun (c.args.session - 1) c.number-number.result c.args.key.now (option_copied c.look-outcome.result.found) (record { writes = c.self.invariant.hold.writes; numbers = c.self.invariant.hold.numbers })
    (is_there _ (rw (← c.self.view_is) at c.requires.opened)) number (c.look-outcome.ensures.clear ready granted) c.look-outcome.ensures.found)
    c.in-Err.why (rw (to_z-of_z w64 c.args.delta c.ranges.delta) at (rw (← c.self.view_is) at c.in-Err.ensures.refused)))

pub returns-clause-goes_on : goal.returns-clause-goes_on
returns-clause-goes_on c =
    let number = rw c.as_slice.ensures.value at c.number-number.ensures in
    let ready = ap (is_waiting_in_rows c.self.inside.records.rows) number ∙ (rw (← c.self.view_is) at c.requires.ready) in
    rw (← c.self.view_is)
    (goes_over _ c.look-outcome.result.outcome _ (option_copied c.look-outcome.result.found) _ _ c.args.delta (sym (rw (← c.self.view_is) at c.lacks_room.ensures) ∙ c.if-lacks_room.false)
    (c.look-outcome.ensures.told ∙ ap (λ n. outcome (requests_on (record_of c.self.inside.records.rows c.args.key.now)) n Exclusive) number)
    (λ granted. seen_granted c.self.inside.records _ c.self.inside.begun (c.args.session - 1) c.number-number.result c.args.key.now (option_copied c.look-outcome.result.found) (record { writes = c.self.invariant.hold.writes; numbers = c.self.invariant.hold.numbers })
    (is_there _ (rw (← c.self.view_is) at c.requires.opened)) number (c.look-outcome.ensures.clear ready granted) c.look-outcome.ensures.found)
    c.in-Ok.sum (rw (to_z-of_z w64 c.args.delta c.ranges.delta) at (rw (← c.self.view_is) at c.in-Ok.ensures.goes_on)))

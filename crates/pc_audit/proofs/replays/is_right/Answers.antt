use Rattle.std.proofs.Common.{sym, ap, ◌∙◌}
use Rattle.pc_model.specs.Database.{database_of}
use Rattle.pc_replay.specs.Laying.{laid_in_turn}
use Rattle.pc_audit.proofs.replays.is_right.Goals as goal

pub returns-clause-right : goal.returns-clause-right
returns-clause-right c =
    let db = database_of c.args.base.now in
    let laid = c.in_ok-laid.ensures ∙ ap (laid_in_turn db 0) c.as_slice.ensures.value in
    let state = c.in_ok-go_to.ensures ∙ c.in-Some.ensures.state db in (
      λ yes. record { has_point = sym c.in-Some.ensures.token; is_the_state = sym laid ∙ c.is.ensures.0 yes ∙ state },
      λ right. c.is.ensures.1 (laid ∙ right.is_the_state ∙ sym state),
    )

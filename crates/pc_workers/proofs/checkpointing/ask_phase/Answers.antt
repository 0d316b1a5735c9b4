use Rattle.std.proofs.Common.{sym, ◌∙◌}
use Rattle.pc_workers.proofs.Cycling.{advance_refused, turned_if, waited}
use Rattle.pc_workers.proofs.ShownLaws.{shows}
use Rattle.pc_workers.proofs.checkpointing.ask_phase.Goals as goal

pub returns-in-Ok-clause-waited : goal.returns-in-Ok-clause-waited
returns-in-Ok-clause-waited g c none =
    waited g.N.StoreName.name.setting c.args.seat.now c.advance_shown-reply.new.checkpointer c.advance_shown-reply.result.reply (sym c.in-Ok.ensures.named ∙ none) c.advance_shown-reply.ensures.called

pub returns-in-Ok-clause-turned : goal.returns-in-Ok-clause-turned
returns-in-Ok-clause-turned g c = turned_if g.N.StoreName.name.setting c.args.seat.now c.advance_shown-reply.new.checkpointer c.advance_shown-reply.result.reply _ c.in-Ok.ensures.named c.advance_shown-reply.ensures.called

pub returns-in-Err-clause-held_up : goal.returns-in-Err-clause-held_up
returns-in-Err-clause-held_up g c =
    advance_refused g.N.StoreName.name.setting c.args.seat.now c.advance_shown-reply.new.checkpointer c.advance_shown-reply.result.reply c.in-Err.why c.in-Err.ensures.refused c.advance_shown-reply.ensures.called

pub returns-in-Err-clause-shown : goal.returns-in-Err-clause-shown
returns-in-Err-clause-shown g c =
    shows g.N.StoreName.name.setting c.advance_shown-reply.new.checkpointer c.advance_shown-reply.result.seen c.advance_shown-reply.result.reply c.in-Err.why c.in-Err.ensures.refused c.advance_shown-reply.ensures.shown

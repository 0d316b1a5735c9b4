use Rattle.std.proofs.Common.{sym, subst}
use Rattle.pc_model.specs.History.{History}
use Rattle.pc_workers.specs.Checkpointing.{IsHeldUp, Shows}
use Rattle.pc_workers.proofs.Taking.{turn_stood, turn_held_up, turn_shows}
use Rattle.pc_workers.proofs.checkpointing.take_batch.Goals as goal

pub returns-in-Enough-clause-stood : goal.returns-in-Enough-clause-stood
returns-in-Enough-clause-stood g c = turn_stood g.N.StoreName.name.setting 32 c.args.seat.now c.take_keys-keys.new.checkpointer c.take_keys-keys.result c.take_keys-keys.ensures

pub returns-in-NoneLeft-clause-stood : goal.returns-in-NoneLeft-clause-stood
returns-in-NoneLeft-clause-stood g c = turn_stood g.N.StoreName.name.setting 32 c.args.seat.now c.take_keys-keys.new.checkpointer c.take_keys-keys.result c.take_keys-keys.ensures

pub returns-in-Refused-clause-held_up : goal.returns-in-Refused-clause-held_up
returns-in-Refused-clause-held_up g c =
    let st = g.N.StoreName.name.setting in
    subst (λ (h : History). IsHeldUp st c.args.seat.now h c.in-Refused.why) (sym c.last_entry_since-seen.ensures.same)
    (turn_held_up st 32 c.args.seat.now c.take_keys-keys.new.checkpointer c.take_keys-keys.result c.take_keys-keys.ensures c.in-Refused.why c.in-Refused.is c.requires)

pub returns-in-Refused-clause-shown : goal.returns-in-Refused-clause-shown
returns-in-Refused-clause-shown g c =
    let st = g.N.StoreName.name.setting in
    subst (λ (h : History). Shows st h c.in-Refused.why c.last_entry_since-seen.result.seen) (sym c.last_entry_since-seen.ensures.same)
    (turn_shows st 32 c.args.seat.now c.take_keys-keys.new.checkpointer c.take_keys-keys.result c.take_keys-keys.ensures c.in-Refused.why c.in-Refused.is c.take_keys-keys.new.checkpointer c.last_entry_since-seen.result.seen c.last_entry_since-seen.ensures.legal c.last_entry_since-seen.ensures.had_seen)

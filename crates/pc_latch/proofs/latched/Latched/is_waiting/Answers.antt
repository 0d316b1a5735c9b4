use Rattle.std.proofs.Common.{ap, ◌∙◌}
use Rattle.pc_model.specs.History.{History}
use Rattle.pc_model.specs.Replies.{Setting}
use Rattle.pc_engine.specs.Waiting.{waits_after}
use Rattle.pc_latch.proofs.latched.Latched.is_waiting.Goals as goal

pub returns : goal.returns
returns g c =
    let hist = c.self.inside.keeper.history in
    let s = c.args.session in
    c.is_waiting.ensures.told hist c.self.invariant.1 ∙ (ap (λ (st : Setting). waits_after st s hist) c.self.invariant.2 ∙ ap (λ (h : History). waits_after g.N.StoreName.name.setting s h) c.self.view_is)

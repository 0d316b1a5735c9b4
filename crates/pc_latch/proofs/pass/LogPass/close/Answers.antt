use Rattle.std.proofs.Common.{sym, ◌∙◌}
use Rattle.pc_latch.proofs.Passing.{still_first, still_within}
use Rattle.pc_latch.proofs.pass.LogPass.close.Goals as goal

pub returns-clause-list : goal.returns-clause-list
returns-clause-list g c =
    let p = c.self.inside in
    sym (still_first p.count p.witness c.args.keeper.now.history c.renew.ensures.had_seen c.self.invariant.0 ∙ c.self.view_is)

pub returns-clause-within : goal.returns-clause-within
returns-clause-within g c =
    let p = c.self.inside in
    still_within p.count p.witness c.args.keeper.now.history c.renew.ensures.had_seen c.self.invariant.0

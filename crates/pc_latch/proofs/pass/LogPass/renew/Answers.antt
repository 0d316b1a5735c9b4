use Rattle.std.proofs.Common.{◌≤◌, length, take, sym, ap, ◌∙◌, subst}
use Rattle.pc_model.specs.History.{History, log_of}
use Rattle.pc_model.specs.Replies.{IsLegalHistory}
use Rattle.pc_latch.proofs.Passing.{still_within, still_first, first_are}
use Rattle.pc_latch.proofs.pass.LogPass.renew.Goals as goal

pub invariant_of-self : goal.invariant_of-self
invariant_of-self g c =
    let p = c.self.inside in
    let w = c.renew.ensures in
    (subst (λ (h : History). p.count ≤ length (log_of h)) (sym w.sees) (still_within p.count p.witness c.args.keeper.now.history w.had_seen c.self.invariant.0), c.self.invariant.1, c.self.invariant.2, subst (IsLegalHistory g.N.StoreName.name.setting) (sym w.sees) c.requires.legal)

pub returns-clause-same : goal.returns-clause-same
returns-clause-same g c =
    let p = c.self.inside in
    let w = c.renew.ensures in
    ap (λ (h : History). take p.count (log_of h)) w.sees ∙ (still_first p.count p.witness c.args.keeper.now.history w.had_seen c.self.invariant.0 ∙ c.self.view_is)

pub returns-clause-first : goal.returns-clause-first
returns-clause-first g c =
    let p = c.self.inside in
    first_are p.count p.witness c.args.keeper.now.history c.args.self.now c.renew.ensures.had_seen c.self.invariant.0 c.self.view_is

use Rattle.std.proofs.Common.{length, ap, ◌∙◌, subst, arith}
use Rattle.pc_model.specs.Calls.{IsBeginning}
use Rattle.pc_tie.specs.Seats.{KeeperView}
use Rattle.pc_kept_log.specs.Logs.{entries_of}
use Rattle.pc_latch.proofs.Passing.{all_handed}
use Rattle.pc_latch.proofs.latched.Latched.has_all.Goals as goal

pub returns-clause-all : goal.returns-clause-all
returns-clause-all g c = λ yes.
    let past = subst (λ (m : KeeperView). IsBeginning c.args.milestone.now m.history) c.renew.ensures.keeper (c.compare_milestone.ensures.had_seen yes) in
    all_handed c.args.milestone.now c.self.inside.keeper.history (entries_of c.log.result.now) c.args.pass.now past c.renew.ensures.first (c.log.ensures.log ∙ c.self.invariant.1.parts.log)
    (omega (arith, c.if-len.false, c.len.ensures, c.len-2.ensures, ap length c.renew.ensures.same))

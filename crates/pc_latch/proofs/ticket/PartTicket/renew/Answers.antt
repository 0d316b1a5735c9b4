use Rattle.std.proofs.Common.{subst}
use Rattle.pc_model.specs.Files.{File}
use Rattle.pc_model.specs.History.{log_of}
use Rattle.pc_model.specs.Standing.{IsOfItsPoints}
use Rattle.pc_latch.proofs.Growing.{worth_grown}
use Rattle.pc_latch.proofs.ticket.PartTicket.renew.Goals as goal

pub invariant_of-self : goal.invariant_of-self
invariant_of-self g c = worth_grown g.N.StoreName.name.setting c.self.inside.witnesses.items c.renew_all.new.witnesses.items c.self.inside.part c.renew_all.ensures.grown c.self.invariant

pub returns-clause-worth : goal.returns-clause-worth
returns-clause-worth g c legal =
    let st = g.N.StoreName.name.setting in
    let hist = c.args.keeper.now.history in
    subst (λ (f : File). IsOfItsPoints st.run st.base (log_of hist) f) c.self.view_is (c.self.invariant hist legal c.renew_all.ensures.had_seen)

use Rattle.std.proofs.Common.{sym, ◌∙◌, arith, subst}
use Rattle.pc_tie.specs.Rules.{AreTold}
use Rattle.pc_tie.specs.Seats.{KeeperView}
use Rattle.pc_tie.proofs.Visits.{compares_at}
use Rattle.pc_tie.proofs.keeper.Keeper.look.Goals as goal

pub load-found-requires : goal.load-found-requires
load-found-requires g c =
    let i = c.self.invariant in
    (i.0 ∙ sym c.args.tie.now.named, omega (arith, c.args.tie.now.one), compares_at _ _ _ _ _ _ _ i.1)

pub returns-clause-told : goal.returns-clause-told
returns-clause-told g c = subst (λ (m : KeeperView). AreTold m.history m.guests) c.self.view_is c.load-found.ensures.2.1

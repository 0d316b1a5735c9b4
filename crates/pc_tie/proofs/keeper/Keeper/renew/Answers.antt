use Rattle.std.proofs.Common.{◌≡◌, refl, ap, ◌∙◌, subst}
use Rattle.pc_model.specs.History.{History}
use Rattle.pc_model.specs.Calls.{IsBeginning}
use Rattle.pc_tie.specs.declared.sight.Sitting.{Sitting}
use Rattle.pc_tie.specs.Rules.{AreTold}
use Rattle.pc_tie.specs.Seats.{KeeperView, sitting_in}
use Rattle.pc_tie.proofs.keeper.Keeper.renew.Goals as goal

pub returns-clause-had_seen : goal.returns-clause-had_seen
returns-clause-had_seen g c =
    let hist = c.args.self.now.history in
    let s : Sitting = sitting_in c.replace-badge.result.views in
    let there : s.seen ≡ c.args.witness.now = ap (λ b. (sitting_in b.views).seen) c.replace-badge.ensures.value ∙ c.witness.view_is in
    let told = subst (λ (m : KeeperView). AreTold m.history m.guests) c.enter.ensures c.look.ensures.told in
    subst (λ (h : History). IsBeginning h hist) there (told.0 0 s refl).0

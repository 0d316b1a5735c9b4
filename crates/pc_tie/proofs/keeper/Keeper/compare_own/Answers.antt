use Rattle.std.proofs.Common.{◌≡◌, ℕ, refl, sym, ap, ◌∙◌, subst}
use Rattle.pc_model.specs.History.{History}
use Rattle.pc_model.specs.Calls.{HasCallsOf}
use Rattle.pc_tie.specs.declared.sight.Sitting.{Sitting}
use Rattle.pc_tie.specs.Rules.{AreTold}
use Rattle.pc_tie.specs.Seats.{KeeperView, sitting_in}
use Rattle.pc_tie.proofs.keeper.Keeper.compare_own.Goals as goal

pub leave-requires : goal.leave-requires
leave-requires g c = (sitting_in c.replace-badge.result.views, c.args.self.now.guests, ap (λ (m : KeeperView). m.guests) (c.look.ensures.keeper ∙ c.enter.ensures))

pub returns-clause-knew : goal.returns-clause-knew
returns-clause-knew g c =
    let hist = c.args.self.now.history in
    let s : Sitting = sitting_in c.replace-badge.result.views in
    let there : s ≡ sitting_in c.checkpointer.inside.badge.views = ap (λ b. sitting_in b.views) c.replace-badge.ensures.value in
    let told = subst (λ (m : KeeperView). AreTold m.history m.guests) c.enter.ensures c.look.ensures.told in
    let own = told.0 0 s refl in
    let zero : s.number ≡ 0 = ap (λ (x : Sitting). x.number) there ∙ c.checkpointer.invariant.1 in
    let all : HasCallsOf hist s.number s.seen = (own.0, own.1 (λ e. cc (sym e ∙ zero))) in
    subst (λ (y : ℕ × History). HasCallsOf hist y.0 y.1) (λ i. (zero i, (ap (λ (x : Sitting). x.seen) there ∙ c.checkpointer.view_is) i)) all

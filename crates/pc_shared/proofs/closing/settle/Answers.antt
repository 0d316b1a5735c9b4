use Rattle.std.proofs.Common.{◌≡◌, [], All, sym, ap, ◌∙◌, subst}
use Rattle.std.proofs.lemmas.List.Elements.{All-nil}
use Rattle.pc_model.specs.Calls.{HasCallsOf, IsBeginning}
use Rattle.pc_model.specs.History.{History}
use Rattle.pc_model.specs.Replies.{Setting, IsLegalHistory}
use Rattle.pc_tie.specs.Seats.{KeeperView, IsSession}
use Rattle.pc_shared.specs.Sitters.{IsSitterSettled}
use Rattle.pc_shared.proofs.Settling.{all_settled}
use Rattle.pc_shared.proofs.closing.settle.Goals as goal

pub compare_all-requires : goal.compare_all-requires
compare_all-requires g c =
    let none : c.renew.new.self.guests ≡ [] = ap (λ (m : KeeperView). m.guests) (c.renew.ensures.same ∙ c.compare_own.ensures.same.0) ∙ c.into_parts-world.ensures.keeper.1 in
    subst (All (IsSession g.N.StoreName.name.setting)) (sym none) (All-nil (IsSession g.N.StoreName.name.setting))

pub returns : goal.returns
returns g c =
    let st = g.N.StoreName.name.setting in
    let is = c.into_parts-world.ensures in
    let k = c.renew.new.self in
    let ss = c.args.sessions.items in
    let own : c.compare_own.new.self.history ≡ c.args.latched = ap (λ (m : KeeperView). m.history) c.compare_own.ensures.same.0 ∙ is.keeper.0 in
    let none : k.guests ≡ [] = ap (λ (m : KeeperView). m.guests) (c.renew.ensures.same ∙ c.compare_own.ensures.same.0) ∙ is.keeper.1 in
    let there : k.history ≡ c.args.latched = ap (λ (m : KeeperView). m.history) c.renew.ensures.same ∙ own in
    let legal : IsLegalHistory st k.history = subst (λ (y : Setting × History). IsLegalHistory y.0 y.1) (λ i. (is.stands.1 i, sym there i)) is.stands.0.legal in
    record {
      legal = subst (IsLegalHistory st) there legal;
      settled = subst (λ (h : History). All (IsSitterSettled st h) ss) there (all_settled st k.history ss k.guests none legal c.compare_all.ensures.seated c.compare_all.ensures.fronts);
      cycles = subst (λ (h : History). HasCallsOf h 0 c.args.checkpointer) is.keeper.0 c.compare_own.ensures.knew;
      had_seen = subst (IsBeginning c.args.witness) own c.renew.ensures.had_seen;
    }

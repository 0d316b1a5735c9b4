use Rattle.std.proofs.Common.{◌≡◌, ◌≤◌, List, [], length, take, All, sym, ap, ◌∙◌, subst}
use Rattle.std.proofs.lemmas.List.Elements.{All-nil}
use Rattle.pc_model.specs.History.{History, log_of}
use Rattle.pc_model.specs.Standing.{IsOfItsPoints}
use Rattle.pc_model.specs.Replies.{Setting, IsLegalHistory}
use Rattle.pc_model.specs.Calls.{HasCallsOf}
use Rattle.pc_tie.specs.Seats.{KeeperView, IsSession}
use Rattle.pc_shared.specs.Sitters.{IsSitterSettled}
use Rattle.pc_types.specs.declared.Entry.{Entry}
use Rattle.pc_shared.specs.Lent.{AreLentBy}
use Rattle.pc_shared.specs.Sitters.{Sitter}
use Rattle.pc_shared.proofs.Lending.{all_lent}
use Rattle.pc_shared.proofs.Settling.{all_settled, all_apart}
use Rattle.pc_shared.proofs.closing.close.Goals as goal

pub compare_all-requires : goal.compare_all-requires
compare_all-requires g c =
    let none : c.compare_own.new.self.guests ≡ [] = ap (λ (m : KeeperView). m.guests) c.compare_own.ensures.same.0 ∙ c.into_parts-world.ensures.keeper.1 in
    subst (All (IsSession g.N.StoreName.name.setting)) (sym none) (All-nil (IsSession g.N.StoreName.name.setting))

pub returns-clause-settled : goal.returns-clause-settled
returns-clause-settled g c =
    let st = g.N.StoreName.name.setting in
    let is = c.into_parts-world.ensures in
    let k = c.compare_own.new.self in
    let ss = c.args.handed.sessions.items in
    let none : k.guests ≡ [] = ap (λ (m : KeeperView). m.guests) c.compare_own.ensures.same.0 ∙ is.keeper.1 in
    let there : k.history ≡ c.args.latched = ap (λ (m : KeeperView). m.history) c.compare_own.ensures.same.0 ∙ is.keeper.0 in
    let legal : IsLegalHistory st k.history = subst (λ (y : Setting × History). IsLegalHistory y.0 y.1) (λ i. (is.stands.1 i, sym there i)) is.stands.0.legal in
    subst (λ (h : History). All (IsSitterSettled st h) ss) there (all_settled st k.history ss k.guests none legal c.compare_all.ensures.seated c.compare_all.ensures.fronts)

pub returns-clause-apart : goal.returns-clause-apart
returns-clause-apart g c =
    let k = c.compare_own.new.self in
    let none : k.guests ≡ [] = ap (λ (m : KeeperView). m.guests) c.compare_own.ensures.same.0 ∙ c.into_parts-world.ensures.keeper.1 in
    all_apart c.args.handed.sessions.items k.guests none c.compare_all.ensures.seated c.compare_all.ensures.apart

pub returns-clause-calls : goal.returns-clause-calls
returns-clause-calls g c = subst (λ (h : History). HasCallsOf h 0 c.args.handed.checkpointer) c.into_parts-world.ensures.keeper.0 c.compare_own.ensures.knew

pub returns-clause-list : goal.returns-clause-list
returns-clause-list g c =
    let e = c.close-logged.ensures in
    let n = c.close-logged.result in
    let chain : c.renew_tickets.new.keeper.history ≡ c.args.latched =
    ap (λ (m : KeeperView). m.history) (c.renew_tickets.ensures.keeper ∙ c.compare_all.ensures.keeper ∙ c.compare_own.ensures.same.0) ∙ c.into_parts-world.ensures.keeper.0 in
    (e.list ∙ ap (λ (h : History). take n (log_of h)) chain, subst (λ (h : History). n ≤ length (log_of h)) chain e.within)

pub returns-clause-worth : goal.returns-clause-worth
returns-clause-worth g c =
    let st = g.N.StoreName.name.setting in
    let is = c.into_parts-world.ensures in
    let chain : c.compare_all.new.keeper.history ≡ c.args.latched = ap (λ (m : KeeperView). m.history) (c.compare_all.ensures.keeper ∙ c.compare_own.ensures.same.0) ∙ is.keeper.0 in
    let legal : IsLegalHistory st c.compare_all.new.keeper.history = subst (λ (y : Setting × History). IsLegalHistory y.0 y.1) (λ i. (is.stands.1 i, sym chain i)) is.stands.0.legal in
    subst (λ (h : History). All (IsOfItsPoints st.run st.base (log_of h)) c.args.handed.tickets.items) chain (c.renew_tickets.ensures.worth legal)

pub invariant_of-result : goal.invariant_of-result
invariant_of-result g c =
    let st = g.N.StoreName.name.setting in
    let is = c.into_parts-world.ensures in
    let k = c.compare_own.new.self in
    let ss = c.args.handed.sessions.items in
    let none : k.guests ≡ [] = ap (λ (m : KeeperView). m.guests) c.compare_own.ensures.same.0 ∙ is.keeper.1 in
    let there : k.history ≡ c.args.latched = ap (λ (m : KeeperView). m.history) c.compare_own.ensures.same.0 ∙ is.keeper.0 in
    let legal : IsLegalHistory st k.history = subst (λ (y : Setting × History). IsLegalHistory y.0 y.1) (λ i. (is.stands.1 i, sym there i)) is.stands.0.legal in
    let settled : All (IsSitterSettled st c.args.latched) ss = subst (λ (h : History). All (IsSitterSettled st h) ss) there (all_settled st k.history ss k.guests none legal c.compare_all.ensures.seated c.compare_all.ensures.fronts) in
    record { lends = subst (λ (y : List Entry × List Sitter). All (AreLentBy y.0) y.1) (λ i. (sym is.stands.0.parts.log i, sym c.compare_all.ensures.sessions i)) (all_lent st c.args.latched ss settled) }

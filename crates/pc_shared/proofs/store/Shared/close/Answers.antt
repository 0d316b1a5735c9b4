use Rattle.std.proofs.Common.{◌≤◌, ℕ, List, length, take, All, sym, ap, ◌∙◌, subst}
use Rattle.std.specs.Prelude.{MatchBool}
use Rattle.pc_types.specs.declared.Entry.{Entry}
use Rattle.pc_model.specs.Standing.{IsOfItsPoints}
use Rattle.pc_model.specs.Replies.{Setting, IsLegalHistory}
use Rattle.pc_shared.specs.Sitters.{HasAll, LacksOne}
use Rattle.pc_shared.proofs.store.Shared.close.Goals as goal

pub returns-clause-left : goal.returns-clause-left
returns-clause-left g c =
    let e = c.close.ensures in
    let s = e.stands.0 in
    let is = e.stands.1 in
    let h = c.into_inner-latched.result.latched in
    let log = s.parts.log in (
      h,
      record {
        legal = subst (λ (t : Setting). IsLegalHistory t h) is s.legal;
        base = λ k. record { run = (is k).run; point = s.parts.start k; pairs = (is k).base };
        log_is = log;
        settled = e.settled;
        cycles = e.calls;
        worth = subst (λ (l : List Entry). All (IsOfItsPoints g.N.StoreName.name.setting.run g.N.StoreName.name.setting.base l) c.args.tickets.items) (sym log) e.worth;
        list = e.list.0 ∙ ap (take c.close.result.logged) (sym log);
        within = subst (λ (l : List Entry). c.close.result.logged ≤ length l) (sym log) e.list.1;
      },
    )

pub returns-clause-all : goal.returns-clause-all
returns-clause-all g c =
    let ss = c.args.sessions.items in
    subst (λ (n : ℕ). MatchBool c.close.result.all (HasAll n ss) (LacksOne n ss)) (sym c.args.self.count_is) c.close.ensures.all

use Rattle.std.proofs.Common.{◌+◌, ◌≤◌, ◌++◌, List, length, take, drop, sym, refl, ap, ◌∙◌, subst, arith}
use Rattle.pc_types.specs.declared.Entry.{Entry}
use Rattle.pc_model.specs.History.{History, log_of}
use Rattle.pc_kept_log.specs.Logs.{entries_of}
use Rattle.pc_latch.proofs.Passing.{legal_now, still_within, still_first, more_listed, first_length, first_in}
use Rattle.pc_latch.specs.Batches.{batch}
use Rattle.pc_latch.proofs.Batching.{batch_again, batch_behind, counted, next_first}
use Rattle.pc_latch.proofs.latched.Latched.log_next.Goals as goal

pub next_of-requires : goal.next_of-requires
next_of-requires g c =
    let p = c.pass.inside in
    let w = c.renew.ensures in
    omega (arith, still_within p.count p.witness c.self.inside.keeper.history w.had_seen c.pass.invariant.0, ap length (c.log.ensures.log ∙ c.self.invariant.1.parts.log))

pub invariant_of-pass : goal.invariant_of-pass
invariant_of-pass g c =
    let p = c.pass.inside in
    let w = c.renew.ensures in
    (subst (λ (h : History). p.count ≤ length (log_of h)) (sym w.sees) (still_within p.count p.witness c.self.inside.keeper.history w.had_seen c.pass.invariant.0), c.pass.invariant.1, c.pass.invariant.2, legal_now g.N.StoreName.name.setting c.self.inside.world c.self.inside.keeper.history c.renew.new.witness c.self.invariant.1 c.self.invariant.2 w.sees)

pub returns-in-Err-clause-same : goal.returns-in-Err-clause-same
returns-in-Err-clause-same g c =
    let p = c.pass.inside in
    let w = c.renew.ensures in
    ap (λ (h : History). take p.count (log_of h)) w.sees ∙ (still_first p.count p.witness c.self.inside.keeper.history w.had_seen c.pass.invariant.0 ∙ c.pass.view_is)

pub invariant_of-pass-2 : goal.invariant_of-pass-2
invariant_of-pass-2 g c =
    let p = c.pass.inside in
    let w = c.renew.ensures in
    let all = entries_of c.log.result.now in
    let grown = ap length (c.log.ensures.log ∙ c.self.invariant.1.parts.log) in
    (subst (λ (h : History). p.count + c.in-Ok.next.count ≤ length (log_of h)) (sym w.sees) (omega (arith, c.in-Ok.ensures.within, grown)), omega (arith, c.in-Ok.ensures.within, c.log.ensures.limit), c.pass.invariant.2, legal_now g.N.StoreName.name.setting c.self.inside.world c.self.inside.keeper.history c.renew.new.witness c.self.invariant.1 c.self.invariant.2 w.sees)

pub returns-clause-list : goal.returns-clause-list
returns-clause-list g c =
    let p = c.pass.inside in
    let w = c.renew.ensures in
    let all = entries_of c.log.result.now in
    let more = batch c.args.room (drop p.count all) in
    let is = c.log.ensures.log ∙ c.self.invariant.1.parts.log in
    more_listed p.count c.in-Ok.next.count p.witness c.self.inside.keeper.history c.renew.new.witness all more w.had_seen w.sees c.pass.invariant.0 is
    (next_first p.count c.in-Ok.next.count all more c.in-Ok.ensures.batch c.in-Ok.ensures.within) (counted p.count c.in-Ok.next.count all more c.in-Ok.ensures.batch c.in-Ok.ensures.within)
    ∙ ap (λ (l : List Entry). l ++ more) c.pass.view_is
    ∙ ap (λ (l : List Entry). c.args.pass.now ++ l) (batch_behind c.args.room p.count all more c.self.inside.keeper.history c.args.self.now c.args.pass.now refl is c.self.view_is (first_length p.count (log_of p.witness) c.args.pass.now c.pass.invariant.0 c.pass.view_is))

pub returns-clause-first : goal.returns-clause-first
returns-clause-first g c = first_in (c.pass.inside.count + c.in-Ok.next.count) c.self.inside.keeper.history c.renew.new.witness c.args.self.now c.renew.ensures.sees c.self.view_is

pub returns-clause-next : goal.returns-clause-next
returns-clause-next g c =
    let p = c.pass.inside in
    let w = c.renew.ensures in
    let all = entries_of c.log.result.now in
    let more = batch c.args.room (drop p.count all) in
    let is = c.log.ensures.log ∙ c.self.invariant.1.parts.log in
    record {
      more = more;
      list =
          more_listed p.count c.in-Ok.next.count p.witness c.self.inside.keeper.history c.renew.new.witness all more w.had_seen w.sees c.pass.invariant.0 is
          (next_first p.count c.in-Ok.next.count all more c.in-Ok.ensures.batch c.in-Ok.ensures.within) (counted p.count c.in-Ok.next.count all more c.in-Ok.ensures.batch c.in-Ok.ensures.within)
          ∙ ap (λ (l : List Entry). l ++ more) c.pass.view_is;
      whole = batch_again c.args.room (drop p.count all);
      texts = c.in-Ok.ensures.text;
      counted = counted p.count c.in-Ok.next.count all more c.in-Ok.ensures.batch c.in-Ok.ensures.within;
    }

use Rattle.std.proofs.Common.{ℕ, sym, ap, ◌∙◌, subst}
use Rattle.pc_types.specs.declared.Event.TheVariants.{Begin}
use Rattle.pc_types.specs.declared.Reply.TheVariants.{Begun}
use Rattle.pc_model.specs.Calls.{step_of}
use Rattle.pc_model.specs.Receipts.{own_of}
use Rattle.pc_txn.specs.Notes.{kept_in}
use Rattle.pc_shared.specs.Sitters.{Sitter, SessionKeeps}
use Rattle.pc_shared.proofs.Keeping.{begin_keeps, begun_receipts, step_found}
use Rattle.pc_shared.proofs.store.Shared.begin.Goals as goal

pub invariant_of-session-2 : goal.invariant_of-session-2
invariant_of-session-2 g c =
    let st = g.N.StoreName.name.setting in
    let w = c.session.inside.work in
    let v = c.begin.new.self in
    let e = c.begin.ensures in
    let f = c.session.inside.seat in
    let after = c.begin_as.new.seat.seen in (
      subst (λ (m : ℕ). SessionKeeps v.busy v.reads.items v.commits.items m after) (sym c.begin_as.ensures.number)
          (begin_keeps st f.number f.seen after w.busy v.busy w.reads.items v.reads.items w.commits.items v.commits.items c.session.invariant.0 c.in-Ok.t c.in-Ok.ensures.call e.0 e.1 e.2),
      ap (λ l. kept_in l v.reads.items) e.3 ∙ sym (step_found st f.seen after (step_of (Begin f.number) (Begun c.in-Ok.t)) c.in-Ok.ensures.call),
    )

pub returns-clause-receipts : goal.returns-clause-receipts
returns-clause-receipts g c =
    let f = c.session.inside.seat in
    let after = c.begin_as.new.seat.seen in
    ap (λ (n : ℕ). (own_of n after).receipts) c.begin_as.ensures.number ∙ (begun_receipts g.N.StoreName.name.setting f.number f.seen after c.in-Ok.t c.in-Ok.ensures.call ∙ ap (λ (s : Sitter). s.receipts) c.session.view_is)

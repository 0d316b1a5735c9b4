use Rattle.std.proofs.Common.{ℕ, sym, ap, ◌∙◌, subst}
use Rattle.pc_types.specs.declared.Event.TheVariants as asked
use Rattle.pc_types.specs.declared.Refusal.{Refusal}
use Rattle.pc_types.specs.declared.Reply.TheVariants.{Aborted, Refused}
use Rattle.pc_model.specs.Calls.{step_of, IsAnswered}
use Rattle.pc_model.specs.Calls.AsksOpen.{Aborts}
use Rattle.pc_model.specs.Receipts.{own_of}
use Rattle.pc_txn.specs.Notes.{kept_in}
use Rattle.pc_shared.specs.Sitters.{Sitter, SessionKeeps}
use Rattle.pc_shared.proofs.Keeping.{abort_keeps, aborted_receipts, step_found}
use Rattle.pc_shared.proofs.store.Shared.abort.Goals as goal

pub invariant_of-session-2 : goal.invariant_of-session-2
invariant_of-session-2 g c =
    let st = g.N.StoreName.name.setting in
    let w = c.session.inside.work in
    let f = c.session.inside.seat in
    let after = c.abort_as.new.seat.seen in
    let v = c.abort.new.self in
    let e = c.abort.ensures in (
      subst (λ (m : ℕ). SessionKeeps v.busy v.reads.items v.commits.items m after) (sym c.abort_as.ensures.number)
          (abort_keeps st f.number f.seen after w.busy v.busy w.reads.items v.reads.items w.commits.items v.commits.items c.session.invariant.0 c.in-Ok.ensures.call e.0 e.1),
      ap (λ l. kept_in l v.reads.items) e.2 ∙ sym (step_found st f.seen after (step_of (asked.Abort f.number) Aborted) c.in-Ok.ensures.call),
    )

pub returns-clause-receipts : goal.returns-clause-receipts
returns-clause-receipts g c =
    let f = c.session.inside.seat in
    let after = c.abort_as.new.seat.seen in
    ap (λ (n : ℕ). (own_of n after).receipts) c.abort_as.ensures.number ∙ (aborted_receipts g.N.StoreName.name.setting f.number f.seen after c.in-Ok.ensures.call ∙ ap (λ (s : Sitter). s.receipts) c.session.view_is)

pub returns-then-not-session-clause-refused : goal.returns-then-not-session-clause-refused
returns-then-not-session-clause-refused g c =
    let s = c.session.inside.seat in
    subst (λ (y : Sitter × Refusal). IsAnswered g.N.StoreName.name.setting y.0.number y.0.seen (asked.Abort y.0.number) (Refused y.1)) (λ k. (c.session.view_is k, sym c.told_idle.ensures.told k)) (c.told_idle.ensures.answered (asked.Abort s.number) (Aborts))

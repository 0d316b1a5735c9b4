use Rattle.std.proofs.Common.{ℕ, sym, ap, ◌∙◌, subst}
use Rattle.std.specs.Prelude.{Some}
use Rattle.pc_types.specs.declared.Event.TheVariants as asked
use Rattle.pc_types.specs.declared.Refusal.{Refusal}
use Rattle.pc_types.specs.declared.Reply.TheVariants.{Refused}
use Rattle.pc_model.specs.Calls.{IsAnswered}
use Rattle.pc_model.specs.Calls.AsksOpen.{Puts}
use Rattle.pc_model.specs.Receipts.{own_of}
use Rattle.pc_txn.specs.Notes.{kept_in}
use Rattle.pc_shared.specs.Asked.{write_event}
use Rattle.pc_shared.specs.Sitters.{Sitter, SessionKeeps}
use Rattle.pc_shared.proofs.Keeping.{write_keeps, made_receipts, made_found}
use Rattle.pc_shared.proofs.store.Shared.put.Goals as goal

pub invariant_of-session-2 : goal.invariant_of-session-2
invariant_of-session-2 g c =
    let st = g.N.StoreName.name.setting in
    let w = c.session.inside.work in
    let v = c.find_nothing.new.self in
    let e = c.find_nothing.ensures in
    let f = c.session.inside.seat in
    let after = c.put_as.new.seat.seen in (
      subst (λ (m : ℕ). SessionKeeps v.busy v.reads.items v.commits.items m after) (sym c.put_as.ensures.number)
          (write_keeps st f.number f.seen after w.busy v.busy w.reads.items v.reads.items w.commits.items v.commits.items c.session.invariant.0 c.args.key (Some c.args.value) c.in-Ok.made c.if-not-session.false c.in-Ok.ensures.call e.0 e.1 e.2),
      ap (λ l. kept_in l v.reads.items) e.3 ∙ sym (made_found st f.seen after (write_event f.number c.args.key (Some c.args.value)) c.in-Ok.made c.in-Ok.ensures.call),
    )

pub returns-clause-receipts : goal.returns-clause-receipts
returns-clause-receipts g c =
    let f = c.session.inside.seat in
    let after = c.put_as.new.seat.seen in
    ap (λ (n : ℕ). (own_of n after).receipts) c.put_as.ensures.number ∙ (made_receipts g.N.StoreName.name.setting f.number f.seen after c.args.key (Some c.args.value) c.in-Ok.made c.in-Ok.ensures.call ∙ ap (λ (s : Sitter). s.receipts) c.session.view_is)

pub returns-then-not-session-clause-refused : goal.returns-then-not-session-clause-refused
returns-then-not-session-clause-refused g c =
    let s = c.session.inside.seat in
    subst (λ (y : Sitter × Refusal). IsAnswered g.N.StoreName.name.setting y.0.number y.0.seen (asked.Put y.0.number c.args.key c.args.value) (Refused y.1)) (λ k. (c.session.view_is k, sym c.told_idle.ensures.told k)) (c.told_idle.ensures.answered (asked.Put s.number c.args.key c.args.value) (Puts c.args.key c.args.value))

pub returns-in-Err-clause-refused : goal.returns-in-Err-clause-refused
returns-in-Err-clause-refused g c = subst (λ (y : Sitter). IsAnswered g.N.StoreName.name.setting y.number y.seen (asked.Put y.number c.args.key c.args.value) (Refused c.in-Err.why)) c.session.view_is c.in-Err.ensures.refused

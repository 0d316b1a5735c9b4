use Rattle.std.proofs.Common.{ℕ, sym, ap, ◌∙◌, subst}
use Rattle.std.specs.Int.{w64}
use Rattle.std.proofs.lemmas.Int.{to_z-of_z}
use Rattle.pc_types.specs.declared.Event.TheVariants as asked
use Rattle.pc_types.specs.declared.Refusal.{Refusal}
use Rattle.pc_types.specs.declared.Reply.TheVariants.{Refused}
use Rattle.pc_model.specs.Calls.{IsAnswered}
use Rattle.pc_model.specs.Calls.AsksOpen.{Adds}
use Rattle.pc_model.specs.Receipts.{own_of}
use Rattle.pc_txn.specs.Notes.{kept_in}
use Rattle.pc_shared.specs.Sitters.{Sitter, SessionKeeps}
use Rattle.pc_shared.proofs.Keeping.{add_keeps, summed_receipts, summed_found}
use Rattle.pc_shared.proofs.store.Shared.add.Goals as goal

pub invariant_of-session-2 : goal.invariant_of-session-2
invariant_of-session-2 g c =
    let st = g.N.StoreName.name.setting in
    let w = c.session.inside.work in
    let v = c.find_nothing.new.self in
    let e = c.find_nothing.ensures in
    let f = c.session.inside.seat in
    let after = c.add_as.new.seat.seen in
    let call = rw (to_z-of_z w64 c.args.delta c.ranges.delta) at c.in-Ok.ensures.call in (
      subst (λ (m : ℕ). SessionKeeps v.busy v.reads.items v.commits.items m after) (sym c.add_as.ensures.number)
          (add_keeps st f.number f.seen after w.busy v.busy w.reads.items v.reads.items w.commits.items v.commits.items c.session.invariant.0 c.args.key c.args.delta c.in-Ok.sum c.if-not-session.false call e.0 e.1 e.2),
      ap (λ l. kept_in l v.reads.items) e.3 ∙ sym (summed_found st f.seen after (asked.Add f.number c.args.key c.args.delta) c.in-Ok.sum call),
    )

pub returns-clause-receipts : goal.returns-clause-receipts
returns-clause-receipts g c =
    let f = c.session.inside.seat in
    let after = c.add_as.new.seat.seen in
    let call = rw (to_z-of_z w64 c.args.delta c.ranges.delta) at c.in-Ok.ensures.call in
    ap (λ (n : ℕ). (own_of n after).receipts) c.add_as.ensures.number ∙ (summed_receipts g.N.StoreName.name.setting f.number f.seen after c.args.key c.args.delta c.in-Ok.sum call ∙ ap (λ (s : Sitter). s.receipts) c.session.view_is)

pub returns-then-not-session-clause-refused : goal.returns-then-not-session-clause-refused
returns-then-not-session-clause-refused g c =
    let s = c.session.inside.seat in
    subst (λ (y : Sitter × Refusal). IsAnswered g.N.StoreName.name.setting y.0.number y.0.seen (asked.Add y.0.number c.args.key c.args.delta) (Refused y.1)) (λ k. (c.session.view_is k, sym c.told_idle.ensures.told k)) (c.told_idle.ensures.answered (asked.Add s.number c.args.key c.args.delta) (Adds c.args.key c.args.delta))

pub returns-in-Err-clause-refused : goal.returns-in-Err-clause-refused
returns-in-Err-clause-refused g c = subst (λ (y : Sitter). IsAnswered g.N.StoreName.name.setting y.number y.seen (asked.Add y.number c.args.key c.args.delta) (Refused c.in-Err.why)) c.session.view_is (rw (to_z-of_z w64 c.args.delta c.ranges.delta) at c.in-Err.ensures.refused)

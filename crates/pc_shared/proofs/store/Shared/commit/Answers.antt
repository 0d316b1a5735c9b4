use Rattle.std.proofs.Common.{◌≡◌, ◌++◌, ◌∷◌, [], ℕ, sym, ap, ◌∙◌, subst}
use Rattle.pc_types.specs.declared.Event.TheVariants as asked
use Rattle.pc_types.specs.declared.Refusal.{Refusal}
use Rattle.pc_types.specs.declared.Reply.TheVariants.{Committed, Refused}
use Rattle.pc_model.specs.Calls.{step_of, IsAnswered}
use Rattle.pc_model.specs.Calls.AsksOpen.{Commits}
use Rattle.pc_model.specs.Receipts.{own_of, receipt_of}
use Rattle.pc_txn.specs.Commits.{commit_note}
use Rattle.pc_txn.specs.Notes.{kept_in}
use Rattle.pc_shared.specs.Sitters.{Sitter, SessionKeeps}
use Rattle.pc_shared.proofs.Keeping.{commit_keeps, committed_receipts, step_found}
use Rattle.pc_shared.proofs.store.Shared.commit.Goals as goal

pub invariant_of-session-2 : goal.invariant_of-session-2
invariant_of-session-2 g c =
    let st = g.N.StoreName.name.setting in
    let w = c.session.inside.work in
    let v = c.commit.new.self in
    let f = c.session.inside.seat in
    let after = c.commit_as.new.seat.seen in
    let e = c.commit.ensures in
    let commits : v.commits.items ≡ w.commits.items ++ commit_note c.in-Ok.n w.reads.items ∷ [] = e.1 ∙ (λ i. c.has_room_for_commit-has_room.ensures.same i ++ commit_note c.in-Ok.n w.reads.items ∷ []) in (
      subst (λ (m : ℕ). SessionKeeps v.busy v.reads.items v.commits.items m after) (sym c.commit_as.ensures.number)
          (commit_keeps st f.number f.seen after w.busy v.busy w.reads.items v.reads.items w.commits.items v.commits.items c.session.invariant.0 c.in-Ok.n c.if-not-session.false c.in-Ok.ensures.call e.0 commits),
      ap (λ l. kept_in l v.reads.items) e.2 ∙ sym (step_found st f.seen after (step_of (asked.Commit f.number) (Committed c.in-Ok.n)) c.in-Ok.ensures.call),
    )

pub returns-then-not-session-clause-refused : goal.returns-then-not-session-clause-refused
returns-then-not-session-clause-refused g c =
    let s = c.session.inside.seat in
    subst (λ (y : Sitter × Refusal). IsAnswered g.N.StoreName.name.setting y.0.number y.0.seen (asked.Commit y.0.number) (Refused y.1)) (λ k. (c.session.view_is k, sym c.told_idle.ensures.told k)) (c.told_idle.ensures.answered (asked.Commit s.number) (Commits))

pub returns-clause-number : goal.returns-clause-number
returns-clause-number g c = c.commit_as.ensures.number ∙ ap (λ (s : Sitter). s.number) c.session.view_is

pub returns-clause-receipt : goal.returns-clause-receipt
returns-clause-receipt g c =
    let f = c.session.inside.seat in
    let after = c.commit_as.new.seat.seen in
    ap (λ (n : ℕ). (own_of n after).receipts) c.commit_as.ensures.number ∙ (committed_receipts g.N.StoreName.name.setting f.number f.seen after c.in-Ok.n c.in-Ok.ensures.call
    ∙ (λ k. (c.session.view_is k).receipts ++ receipt_of (c.session.view_is k).number c.in-Ok.n (own_of (c.session.view_is k).number (c.session.view_is k).seen) ∷ []))

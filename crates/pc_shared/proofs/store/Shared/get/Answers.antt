use Rattle.std.proofs.Common.{◌≡◌, ℕ, List, sym, ap, ◌∙◌, subst}
use Rattle.std.specs.Prelude.{is_some}
use Rattle.pc_types.specs.declared.Event.TheVariants as asked
use Rattle.pc_types.specs.declared.Refusal.{Refusal}
use Rattle.pc_types.specs.declared.Reply.TheVariants.{Refused}
use Rattle.pc_model.specs.Database.{written}
use Rattle.pc_model.specs.Calls.{IsAnswered}
use Rattle.pc_model.specs.Calls.AsksOpen.{Gets}
use Rattle.pc_model.specs.Receipts.{Read, own_of}
use Rattle.pc_txn.specs.Notes.{reads_after}
use Rattle.pc_shared.specs.Asked.{IsGot}
use Rattle.pc_shared.specs.Sitters.{Sitter, SessionKeeps}
use Rattle.pc_shared.proofs.Keeping.{read_keeps, got_receipts, got_found}
use Rattle.pc_shared.proofs.store.Shared.get.Goals as goal

pub invariant_of-session-2 : goal.invariant_of-session-2
invariant_of-session-2 g c =
    let st = g.N.StoreName.name.setting in
    let w = c.session.inside.work in
    let v = c.read.new.self in
    let f = c.session.inside.seat in
    let after = c.get_as.new.seat.seen in
    let got = c.in-Ok.got in
    let key = c.args.key in
    let busy = c.if-not-session.false in
    let mine : c.in-Ok.own ≡ is_some (written (own_of f.number f.seen).writes key) =
    c.in-Ok.ensures.own_write (c.session.invariant.0.when_open ∙ busy) in
    let reads : v.reads.items ≡ reads_after got c.in-Ok.own w.reads.items key = c.read.ensures.reads ∙ ap (λ (l : List Read). reads_after got c.in-Ok.own l key) c.has_room_to_read-has_room.ensures.same in
    let call : IsGot st f.seen f.number key got after = c.in-Ok.ensures.call in (
      subst (λ (m : ℕ). SessionKeeps v.busy v.reads.items v.commits.items m after) (sym c.get_as.ensures.number)
          (read_keeps st f.number f.seen after w.busy v.busy w.reads.items v.reads.items w.commits.items v.commits.items c.session.invariant.0 key got c.in-Ok.own busy mine call c.read.ensures.others.0 reads c.read.ensures.others.1),
      c.read.ensures.latest ∙ sym (got_found st f.number f.seen after key got call),
    )

pub returns-clause-receipts : goal.returns-clause-receipts
returns-clause-receipts g c =
    let f = c.session.inside.seat in
    let after = c.get_as.new.seat.seen in
    ap (λ (n : ℕ). (own_of n after).receipts) c.get_as.ensures.number ∙ (got_receipts g.N.StoreName.name.setting f.number f.seen after c.args.key c.in-Ok.got c.in-Ok.ensures.call ∙ ap (λ (s : Sitter). s.receipts) c.session.view_is)

pub returns-then-not-session-clause-refused : goal.returns-then-not-session-clause-refused
returns-then-not-session-clause-refused g c =
    let s = c.session.inside.seat in
    subst (λ (y : Sitter × Refusal). IsAnswered g.N.StoreName.name.setting y.0.number y.0.seen (asked.Get y.0.number c.args.key) (Refused y.1)) (λ k. (c.session.view_is k, sym c.told_idle.ensures.told k)) (c.told_idle.ensures.answered (asked.Get s.number c.args.key) (Gets c.args.key))

pub returns-in-Err-clause-refused : goal.returns-in-Err-clause-refused
returns-in-Err-clause-refused g c = subst (λ (y : Sitter). IsAnswered g.N.StoreName.name.setting y.number y.seen (asked.Get y.number c.args.key) (Refused c.in-Err.why)) c.session.view_is c.in-Err.ensures.refused

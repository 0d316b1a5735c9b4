use Rattle.std.proofs.Common.{◌≡◌, ℕ, List, Some, sym, ap, ◌∙◌}
use Rattle.std.specs.Prelude.{option_map, slice_get}
use Rattle.pc_txn.specs.Commits.{CommitNote, notes_of, reads_at}
use Rattle.pc_kept_log.specs.Logs.{entries_of}
use Rattle.pc_shared.specs.Lent.{entry_writes}
use Rattle.pc_shared.specs.Sitters.{Sitter}
use Rattle.pc_shared.proofs.Lending.{lent}
use Rattle.pc_shared.proofs.session.Session.receipt.Goals as goal

pub returns : goal.returns
returns g c =
    let s = c.args.self.now in
    let place = c.args.place in
    let kept = c.self.invariant.0.of_commits ∙ ap (λ (s : Sitter). notes_of s.receipts) c.self.view_is in
    let told : Some c.in-Some.number ≡ option_map (λ (n : CommitNote). n.number) (slice_get (notes_of s.receipts) place) = sym c.in-Some.is ∙ (c.number.ensures ∙ ap (λ (ns : List CommitNote). option_map (λ (n : CommitNote). n.number) (slice_get ns place)) kept) in
    let reads : c.reads.result.now ≡ reads_at (notes_of s.receipts) place = c.reads.ensures ∙ ap (λ (ns : List CommitNote). reads_at ns place) kept in
    (λ i. Some (record { number = c.in-Some.number; session = c.number-2.ensures i; reads = c.reads.result.now; writes = entry_writes (entries_of c.args.log.now) c.in-Some.number }))
    ∙ lent (entries_of c.args.log.now) s c.requires place c.in-Some.number c.reads.result.now told reads

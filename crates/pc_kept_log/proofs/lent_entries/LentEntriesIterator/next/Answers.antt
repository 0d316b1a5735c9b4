use Rattle.std.proofs.Common.{ℕ, ◌+◌, ◌-◌, ◌∷◌, sym, ap, ◌∙◌, arith}
use Rattle.std.specs.Prelude.{slice_range}
use Rattle.pc_kept_log.specs.Logs.{entries_of}
use Rattle.pc_kept_log.specs.Pieces.{entry_at_place}
use Rattle.pc_kept_log.proofs.LentEntryLaws.{steps}
use Rattle.pc_kept_log.proofs.lent_entries.LentEntriesIterator.next.Goals as goal

pub returns-clause-steps : goal.returns-clause-steps
returns-clause-steps c =
    let entries = entries_of c.self.inside.log.now in
    let piece = c.piece_beside-piece.result.now in
    let at = c.self.inside.at in
    let to = c.self.inside.to in
    sym c.self.view_is ∙ steps entries piece at to c.piece_beside-piece.ensures (omega (arith, c.if-self.false)) c.self.invariant.0
    ∙ ap (λ (first : ℕ). entry_at_place piece.entries (at - first) ∷ slice_range entries (at + 1) to) (sym c.first.ensures)

use Rattle.std.proofs.Common.{◌∙◌, ap, sym, subst}
use Rattle.pc_locks.specs.Lines.{ends_at, IsEntryAt}
use Rattle.pc_locks.proofs.RowAnswers.{hit_ends}
use Rattle.pc_locks.proofs.ends_row.EndsRow.get.Goals as goal

pub returns : goal.returns
returns c = λ t at.
    hit_ends c.self.inside.rows.items t c.args.at c.self.invariant (subst (λ rows. IsEntryAt rows t c.args.at) (sym c.self.view_is) at) c.index.result.now c.index.ensures ∙ ap (λ rows. ends_at rows t) c.self.view_is

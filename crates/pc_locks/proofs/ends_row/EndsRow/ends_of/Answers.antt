use Rattle.std.proofs.Common.{◌∙◌, ap, subst}
use Rattle.pc_locks.specs.Lines.{ends_at, IsEntryAt}
use Rattle.pc_locks.proofs.RowAnswers.{hit_ends}
use Rattle.pc_locks.proofs.ends_row.EndsRow.ends_of.Goals as goal

pub returns-in-Ok : goal.returns-in-Ok
returns-in-Ok c =
    let at = subst (λ rows. IsEntryAt rows c.args.transaction c.in-Ok.at) c.deref.ensures.value c.in-Ok.ensures.at in
    hit_ends c.self.inside.rows.items c.args.transaction c.in-Ok.at c.self.invariant at c.index.result.now c.index.ensures ∙ ap (λ rows. ends_at rows c.args.transaction) c.self.view_is

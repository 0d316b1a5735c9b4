use Rattle.std.proofs.Common.{◌∙◌, ap, sym, subst}
use Rattle.std.specs.BTreeMap.{is_at}
use Rattle.std.specs.Map.{lookup}
use Rattle.std.specs.Ordering.{nat_cmp}
use Rattle.pc_locks.specs.Lines.{IsEntryAt}
use Rattle.pc_locks.proofs.RowAnswers.{put_rise, put_this, put_other}
use Rattle.pc_locks.proofs.ends_row.EndsRow.put.Goals as goal

pub invariant_of-self : goal.invariant_of-self
invariant_of-self c =
    let at = subst (λ rows. IsEntryAt rows c.args.transaction c.args.at) (sym c.self.view_is) c.requires in
    put_rise c.self.inside.rows.items c.args.transaction c.args.at c.self.invariant at c.args.ends

pub returns-clause-this : goal.returns-clause-this
returns-clause-this c =
    let at = subst (λ rows. IsEntryAt rows c.args.transaction c.args.at) (sym c.self.view_is) c.requires in
    put_this c.self.inside.rows.items c.args.transaction c.args.at c.self.invariant at c.args.ends

pub returns-clause-others : goal.returns-clause-others
returns-clause-others c =
    let at = subst (λ rows. IsEntryAt rows c.args.transaction c.args.at) (sym c.self.view_is) c.requires in
    λ u n. put_other c.self.inside.rows.items c.args.transaction c.args.at c.self.invariant at c.args.ends u n ∙ ap (lookup (is_at (nat_cmp u))) c.self.view_is

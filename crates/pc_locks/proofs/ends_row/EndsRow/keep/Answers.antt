use Rattle.std.proofs.Common.{rules, ◌∙◌, ap, subst}
use Rattle.std.specs.BTreeMap.{is_at}
use Rattle.std.specs.Map.{lookup}
use Rattle.std.specs.Ordering.{nat_cmp}
use Rattle.pc_locks.specs.Lines.{ends_at, IsGapAt}
use Rattle.pc_locks.proofs.RowAnswers.{keep_ends, keep_other}
use Rattle.pc_locks.proofs.ends_row.EndsRow.keep.Goals as goal

pub returns-in_ok-insert_at-in-Err-clause-ends : goal.returns-in_ok-insert_at-in-Err-clause-ends
returns-in_ok-insert_at-in-Err-clause-ends c =
    let gap = subst (λ rows. IsGapAt rows c.args.transaction c.in-Err.at) c.deref.ensures.value c.in-Err.ensures.gap in
    λ u. keep_ends c.self.inside.rows.items c.args.transaction c.in-Err.at gap c.new.result (search rules) c.insert_at.new.rows.items c.in_ok-insert_at-in-Err.ensures u ∙ ap (λ rows. ends_at rows u) c.self.view_is

pub returns-in_ok-insert_at-in-Err-clause-others : goal.returns-in_ok-insert_at-in-Err-clause-others
returns-in_ok-insert_at-in-Err-clause-others c =
    let gap = subst (λ rows. IsGapAt rows c.args.transaction c.in-Err.at) c.deref.ensures.value c.in-Err.ensures.gap in
    λ u n. keep_other c.self.inside.rows.items c.args.transaction c.in-Err.at gap c.new.result (search rules) c.insert_at.new.rows.items c.in_ok-insert_at-in-Err.ensures u n ∙ ap (lookup (is_at (nat_cmp u))) c.self.view_is

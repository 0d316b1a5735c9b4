use Rattle.std.proofs.Common.{◌∙◌, ap, sym, subst}
use Rattle.std.specs.BTreeMap.{is_at}
use Rattle.std.specs.Map.{lookup}
use Rattle.std.specs.Ordering.{nat_cmp}
use Rattle.pc_locks.specs.Lines.{IsEntryAt}
use Rattle.pc_locks.proofs.RowAnswers.{forget_rise, forget_this, forget_other}
use Rattle.pc_locks.proofs.ends_row.EndsRow.forget.Goals as goal

pub invariant_of-self : goal.invariant_of-self
invariant_of-self c = forget_rise c.self.inside.rows.items c.args.at c.self.invariant c.remove_at.new.rows.items c.remove_at.ensures

pub returns-clause-this : goal.returns-clause-this
returns-clause-this c = λ t at.
    forget_this c.self.inside.rows.items t c.args.at c.self.invariant (subst (λ rows. IsEntryAt rows t c.args.at) (sym c.self.view_is) at) c.remove_at.new.rows.items c.remove_at.ensures

pub returns-clause-others : goal.returns-clause-others
returns-clause-others c = λ t u at n.
    forget_other c.self.inside.rows.items t c.args.at c.self.invariant (subst (λ rows. IsEntryAt rows t c.args.at) (sym c.self.view_is) at) c.remove_at.new.rows.items c.remove_at.ensures u n ∙ ap (lookup (is_at (nat_cmp u))) c.self.view_is

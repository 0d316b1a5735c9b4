use Rattle.std.proofs.Common.{rules}
use Rattle.std.proofs.lemmas.Fn.{always_returns_same}
use Rattle.std.specs.Ordering.{nat_cmp}
use Rattle.pc_locks.proofs.RowAnswers.{entry_at, gap_at}
use Rattle.pc_locks.proofs.ends_row.place.Goals as goal

-- the closure compares an entry's number with this one
pub returns-clause-at : goal.returns-clause-at
returns-clause-at c =
    let searched = c.binary_search_by.ensures in
    entry_at c.args.rows.now c.args.transaction c.binary_search_by.result searched.bound (searched.position (λ e. nat_cmp e.0 c.args.transaction) (always_returns_same _ _ _ (λ a r f' called. search rules)))

pub returns-clause-gap : goal.returns-clause-gap
returns-clause-gap c =
    let searched = c.binary_search_by.ensures in
    gap_at c.args.rows.now c.args.transaction c.binary_search_by.result c.requires searched.bound (searched.position (λ e. nat_cmp e.0 c.args.transaction) (always_returns_same _ _ _ (λ a r f' called. search rules)))

-- The state after a borrowed record comes back.
use Rattle.std.specs.Prelude.{ℕ}
use Rattle.std.specs.Borrow.{Lends, Fml, RattleType, MutBor}
use Rattle.pc_table.specs.Rows.{Contents, with_record}
use Rattle.pc_table.specs.declared.entry.TableEntry.{TableEntry}
use Rattle.pc_table.specs.contracts.entry.TableEntry.{the_row as the_entry}
use Rattle.pc_table.specs.contracts.table.Table.{the_row}

-- the entry has the record as it was left
abbrev pub LendsEntryRecord : (T : RattleType) → MutBor (TableEntry T.Denot) → MutBor T.Denot → Fml
LendsEntryRecord T lender lent = Lends (the_entry T) T lender lent (λ left. record lender.now { item = left })

-- the row in the slot has the record as it was left
abbrev pub LendsRow : (T : RattleType) → MutBor (Contents T.Denot) → ℕ → MutBor T.Denot → Fml
LendsRow T lender id lent = Lends (the_row T) T lender lent (λ left. with_record lender.now id left)

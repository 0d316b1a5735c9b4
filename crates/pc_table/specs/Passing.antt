-- Going over the slots from 0 on.
use Rattle.std.specs.Prelude.{ℕ, nat_lt, List, filter}
use Rattle.pc_table.specs.Rows.{TableRow, Contents}

-- the rows in the first n slots
abbrev pub rows_below : {T : Type 0} → Contents T → ℕ → List (TableRow T)
rows_below table n = filter (λ row. nat_lt row.1.0 n) table.rows

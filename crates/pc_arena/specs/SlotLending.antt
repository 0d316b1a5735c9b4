-- The state after a borrowed record comes back.
use Rattle.std.specs.Prelude.{ℕ, Some}
use Rattle.std.specs.Borrow.{Lends, Fml, RattleType, MutBor}
use Rattle.pc_arena.specs.Cells.{with_record}
use Rattle.pc_chain.specs.Slots.{Slots, with_item}
use Rattle.pc_arena.specs.declared.cells.ArenaCell.{ArenaCell}
use Rattle.pc_arena.specs.contracts.cells.ArenaCell.{the_row as the_cell}
use Rattle.pc_arena.specs.contracts.arena.Arena.{the_row}

-- the cell has the record as it was left
abbrev pub LendsCellRecord : (T : RattleType) → MutBor (ArenaCell T.Denot) → MutBor T.Denot → Fml
LendsCellRecord T lender lent = Lends (the_cell T) T lender lent (λ left. with_record lender.now left)

-- the slot has the record as it was left
abbrev pub LendsItem : (T : RattleType) → MutBor (Slots T.Denot) → ℕ → MutBor T.Denot → Fml
LendsItem T lender id lent = Lends (the_row T) T lender lent (λ left. with_item lender.now id (Some left))

use Rattle.std.proofs.Common.{◌≡◌, ◌≤◌, []}
use Rattle.std.specs.Vec.{vec_len, vec_capacity}
use Rattle.pc_board.specs.declared.sight.PassSight.TheVariants.{Dealer}
use Rattle.pc_board.specs.Passes.{new_passes}
use Rattle.pc_board.proofs.board.Board.new.Given as goal

-- that many passes were dealt, and there is room for the others
abbrev pub invariant-loop : goal.invariant-loop
invariant-loop l =
    (l.dealer.table_id ≡ l.table.shared.table_id) × (l.dealer.me ≡ (Dealer l.counter, [])) × (l.all.items ≡ new_passes l.table.shared.table_id l.counter) × (vec_len l.all ≡ l.counter) × (l.fn.passes ≤ vec_capacity l.all)

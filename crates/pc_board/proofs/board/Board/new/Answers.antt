use Rattle.std.proofs.Common.{All, ap, sym, subst, arith}
use Rattle.pc_board.specs.Passes.{Board, Pass, IsOfBoard}
use Rattle.pc_board.proofs.Ends.{new_passes_are_ours}
use Rattle.pc_board.proofs.Seats.{begins, deals_as}
use Rattle.pc_board.proofs.board.Board.new.Goals as goal

pub of_words-requires : goal.of_words-requires
of_words-requires c = begins _ _ c.requires.1

pub split_seat-seat-requires : goal.split_seat-seat-requires
split_seat-seat-requires c =
    let i = c.loop.invariant in
    let t = c.in_ok-table.ensures in
    (i.0, omega (arith, t.0), deals_as _ _ _ _ (ap (λ x. x.0) i.1) (omega (arith, t.5, c.loop-test.true)))

pub push_reserved-requires : goal.push_reserved-requires
push_reserved-requires c = omega (arith, c.loop.invariant.3, c.loop.invariant.4, c.loop-test.true)

pub returns-clause-ours : goal.returns-clause-ours
returns-clause-ours c =
    let board : Board = record { name = c.in_ok-table.table.shared.table_id; passes = c.in_ok-table.table.shared.key } in
    subst (All (λ (pass : Pass). IsOfBoard pass board)) (sym c.loop.invariant.2) (new_passes_are_ours board c.loop.counter)

use Rattle.pc_board.specs.Passes.{IsOfBoard}
use Rattle.test_merges.proofs.boards.numbers.Given as goal

-- the pass stays one of the board
abbrev pub invariant-loop : goal.invariant-loop
invariant-loop l = IsOfBoard l.pass l.board

use Rattle.std.proofs.Common.{◌≡◌, ◌+◌, All, length, map}
use Rattle.pc_board.specs.Passes.{IsOfBoard}
use Rattle.pc_threads.specs.Hands.{first_numbers}
use Rattle.pc_threads.proofs.hands.seat_collapsers.Given as goal

-- those that are seated are numbered from 0, and the next number is their count
abbrev pub invariant-loop-pass : goal.invariant-loop-pass
invariant-loop-pass l =
    (length l.collapsers.items + length l.pass-iterator.rest.items ≡ length l.fn.passes.items)
    × All (λ pass. IsOfBoard pass l.board) l.pass-iterator.rest.items
    × (map (λ collapser. collapser.number) l.collapsers.items ≡ first_numbers (length l.collapsers.items))
    × (l.number ≡ length l.collapsers.items)

-- The number of passes of a new board.
use Rattle.std.proofs.Common.{◌≡◌, ℕ, zero, suc, ◌<◌, ◌≤◌, [], ◌∷◌, length, length-append, refl, arith}
use Rattle.pc_board.specs.Passes.{Board, new_passes}

pub as_many : (board : Board) (count : ℕ) → length (new_passes board.name count) ≡ count
as_many board zero = refl
as_many board (suc count) = omega (arith, as_many board count, length-append (new_passes board.name count) (record { board = board.name; number = count; seen = [] } ∷ []))

pub some_passes : (board : Board) (count : ℕ) → 1 ≤ count → 0 < length (new_passes board.name count)
some_passes board count some = omega (arith, some, as_many board count)

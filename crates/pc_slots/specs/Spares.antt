-- Boxes in which nothing is kept, for later writes: how many there are.
use Rattle.std.specs.Prelude.{ℕ, ◌+◌, ◌&&◌, min, Bool, is_some, is_none, if◌then◌else◌}
use Rattle.pc_types.specs.declared.limits.TheConstants.{MOST_WRITES}
use Rattle.pc_slots.specs.declared.cells.Cell.{Cell}

-- one more, if there is room for it: there are at most as many as a transaction writes keys
abbrev pub one_more_spare : ℕ → ℕ
one_more_spare spares = min (spares + 1) MOST_WRITES

-- one more, if there is one that nothing is kept in
abbrev pub with_spare : Bool → ℕ → ℕ
with_spare is_spare spares = if is_spare then one_more_spare spares else spares

-- the cell had a box, and has none any more
abbrev pub is_freed : Cell → Cell → Bool
is_freed old new = is_some old.aside && is_none new.aside

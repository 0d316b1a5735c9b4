-- The number of writes that a commit of a run has.
use Rattle.std.specs.Prelude.{◌≤◌, length, ⊤}
use Rattle.pc_types.specs.declared.Entry.{Entry}
use Rattle.pc_types.specs.declared.Entry.TheVariants.{Commit, Token}
use Rattle.pc_types.specs.declared.limits.TheConstants.{MOST_WRITES}

-- a commit has at most 256 writes
abbrev pub HasFewWrites : Entry → Type 0
HasFewWrites (Commit session writes) = length writes ≤ MOST_WRITES
HasFewWrites (Token phase point) = ⊤

-- Events for which whoever asks may need memory of its own.
use Rattle.std.specs.Prelude.{⊤}
use Rattle.pc_types.specs.declared.Event.{Event}
use Rattle.pc_types.specs.declared.Event.TheVariants as asked

-- what an open transaction reads, writes, adds and commits
abbrev pub AsksOfOpen : Event → Type 0
AsksOfOpen (asked.Get s key) = ⊤
AsksOfOpen (asked.Put s key value) = ⊤
AsksOfOpen (asked.Del s key) = ⊤
AsksOfOpen (asked.Add s key delta) = ⊤
AsksOfOpen (asked.Commit s) = ⊤
AsksOfOpen other = ⊥

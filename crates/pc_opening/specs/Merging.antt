-- The pairs of one database over those of another.
use Rattle.std.specs.Prelude.{◌≡◌, ℕ, List, map}
use Rattle.pc_types.specs.declared.Change.TheVariants.{Set}
use Rattle.pc_types.specs.declared.Write.{Write}
use Rattle.pc_model.specs.Database.{Database, KeysRise, database_of, applied_all, write_of}

-- the write that sets a pair
abbrev pub pair_write : List ℕ × List ℕ → Write
pair_write pair = write_of pair.0 (Set pair.1)

-- The database is the first one with the pairs of the second one set in it, one after another.
abbrev pub HasPairsOver : Database → Database → Database → Type 0
HasPairsOver first second merged = (pairs : List (List ℕ × List ℕ)) × KeysRise pairs × (database_of pairs ≡ second) × (merged ≡ applied_all first (map pair_write pairs))

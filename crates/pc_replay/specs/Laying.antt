-- Laying triples in order.
use Rattle.std.specs.Prelude.{ℕ, nat_lt, List, [], ◌∷◌, if◌then◌else◌}
use Rattle.pc_types.specs.declared.Triple.{Triple}
use Rattle.pc_model.specs.Database.{Database, put}

-- one triple applied to a database at a point: the key is set or removed if the triple's point is above
abbrev pub laid_one : Database → ℕ → Triple → Database
laid_one db point triple = if nat_lt point triple.point then put db triple.key triple.content else db

-- the triples laid in order
abbrev pub laid_in_turn : Database → ℕ → List Triple → Database
laid_in_turn db point [] = db
laid_in_turn db point (triple ∷ triples) = laid_in_turn (laid_one db point triple) point triples

-- Triples in a list.
use Rattle.std.specs.Prelude.{ℕ, List, Option, map}
use Rattle.pc_types.specs.declared.Triple.{Triple}
use Rattle.pc_model.specs.Maps as map_of
use Rattle.pc_model.specs.Points.{AtPoint, Triples}

-- a triple as its key and the rest
abbrev pub entry_of : Triple → List ℕ × AtPoint
entry_of triple = (triple.key, record { point = triple.point; content = triple.content })

-- the triples as entries of a map
abbrev pub map_entries : List Triple → List (List ℕ × AtPoint)
map_entries triples = map entry_of triples

-- the triples of a list, by key
abbrev pub triples_of : List Triple → Triples
triples_of triples = map_of.from_list (map_entries triples)

-- a key, and what it had at the point, as a triple of the point
abbrev pub triple_at : ℕ → List ℕ × Option (List ℕ) → Triple
triple_at point entry = record { key = entry.0; point = point; content = entry.1 }

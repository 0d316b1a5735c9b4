-- What the definitions of parts, joins and layings come to of each key. They go over lists of entries, in order; these are the same
-- sentences key by key.
use Rattle.std.specs.Prelude.{◌≡◌, ℕ, List, Some, None, if◌then◌else◌}
use Rattle.pc_model.specs.Maps.{get}
use Rattle.pc_model.specs.Database.{Database}
use Rattle.pc_model.specs.Points.{Triples, is_among, triples_at_point, later, joined, laid_at, laid}

-- Sets of triples and databases, key by key.
pub record KeyByKey : Type 0 where
  -- the triples of some keys at a point have just these keys, each with what the database has of it
  pub parts : (point : ℕ) (db : Database) (keys : List (List ℕ)) (key : List ℕ) → get (triples_at_point point db keys) key ≡ (if is_among keys key then Some (record { point = point; content = get db key }) else None)
  -- of each key a join has the triple of the greater point
  pub joins : (first second : Triples) (key : List ℕ) → get (joined first second) key ≡ later (get first key) (get second key)
  -- laying sets or removes each key with a triple above the database's point, and leaves all others
  pub layings : (db : Database) (point : ℕ) (triples : Triples) (key : List ℕ) → get (laid db point triples) key ≡ laid_at (get db key) point (get triples key)

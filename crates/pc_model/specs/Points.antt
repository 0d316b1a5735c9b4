-- The parts of a point's checkpoint: the touched keys, the part, the join of parts, and laying on a database.
use Rattle.std.specs.Prelude.{ℕ, ◌-◌, ◌==◌, nat_lt, Bool, List, [], ◌∷◌, ◌++◌, Option, Some, None, if◌then◌else◌}
use Rattle.std.specs.List.{list_any}
use Rattle.pc_model.specs.Maps.{Map, get, insert, empty}
use Rattle.pc_types.specs.declared.Write.{Write}
use Rattle.pc_types.specs.declared.Entry.{Entry}
use Rattle.pc_types.specs.declared.Entry.TheVariants.{Commit, Token}
use Rattle.pc_model.specs.Database.{Database, key_order, same_bytes, put}
use Rattle.pc_model.specs.Log.{front, log_after_point, state_at, is_resolve}
use Rattle.pc_model.specs.History.{History, Effect, effect}
use Rattle.pc_model.specs.History.Effect.{Moves, Takes}

-- the key is one of these
abbrev pub is_among : List (List ℕ) → List ℕ → Bool
is_among keys key = list_any (same_bytes key) keys

-- the keys with one more at the end, if it isn't among them
abbrev pub with_key : List (List ℕ) → List ℕ → List (List ℕ)
with_key keys key = if is_among keys key then keys else keys ++ key ∷ []

-- the keys with those of the writes
abbrev pub with_keys : List (List ℕ) → List Write → List (List ℕ)
with_keys keys [] = keys
with_keys keys (w ∷ ws) = with_keys (with_key keys w.key) ws

-- the keys, and after them each other one that the log's commits wrote, once, as they were first written
abbrev pub with_written : List (List ℕ) → List Entry → List (List ℕ)
with_written keys [] = keys
with_written keys (Commit session writes ∷ log) = with_written (with_keys keys writes) log
with_written keys (Token phase point ∷ log) = with_written keys log

-- the part of the log between the token of the point before (for 1: the start) and the token of the point
abbrev pub cycle : ℕ → List Entry → List Entry
cycle point log = if point == 1 then front 1 log else front point (log_after_point (point - 1) log)

-- the keys that commits wrote in the point's cycle, each once, in the order of first writes
abbrev pub touched : ℕ → List Entry → List (List ℕ)
touched point log = with_written [] (cycle point log)

-- the rest of a triple, besides its key: the point, and what the key had there, a value or a tombstone
pub record AtPoint : Type 0 where
  pub point : ℕ
  pub content : Option (List ℕ)

-- a set of triples (key, point, content), of each key one
abbrev pub Triples : Type 0
Triples = Map key_order AtPoint

-- the triples of the keys at the point, each with what the database has
abbrev pub triples_at_point : ℕ → Database → List (List ℕ) → Triples
triples_at_point point db [] = empty
triples_at_point point db (key ∷ keys) = insert (triples_at_point point db keys) key (record { point = point; content = get db key })

-- the part of a point: each touched key with what it has in the point's state, a value or a tombstone
abbrev pub part_of : Database → List Entry → ℕ → Triples
part_of base log point = triples_at_point point (state_at base log point) (touched point log)

-- of two triples of a key that of the greater point
abbrev pub newer : Option AtPoint → AtPoint → AtPoint
newer None b = b
newer (Some a) b = if nat_lt a.point b.point then b else a

-- the same if the second may be missing
abbrev pub later : Option AtPoint → Option AtPoint → Option AtPoint
later a None = a
later a (Some b) = Some (newer a b)

-- the triples with these entries joined to them
abbrev pub joined_entries : Triples → List (List ℕ × AtPoint) → Triples
joined_entries m [] = m
joined_entries m (e ∷ es) = insert (joined_entries m es) e.0 (newer (get m e.0) e.1)

-- the join: of a key that both have, that triple whose point is greater
abbrev pub joined : Triples → Triples → Triples
joined m n = joined_entries m n.entries

-- the content of a set of points: the join of their parts
abbrev pub content : Database → List Entry → List ℕ → Triples
content base log [] = empty
content base log (point ∷ points) = joined (part_of base log point) (content base log points)

-- what a key has once a triple is applied to a database at a point: the triple's content if its point is above, else what was there
abbrev pub laid_at : Option (List ℕ) → ℕ → Option AtPoint → Option (List ℕ)
laid_at there point None = there
laid_at there point (Some t) = if nat_lt point t.point then t.content else there

-- the database with these entries applied to it
abbrev pub laid_entries : Database → ℕ → List (List ℕ × AtPoint) → Database
laid_entries db point [] = db
laid_entries db point (e ∷ es) = put (laid_entries db point es) e.0 (laid_at (get db e.0) point (Some e.1))

-- triples applied to a database that is at a point: a key with a triple of a later point is set or removed, others stay
abbrev pub laid : Database → ℕ → Triples → Database
laid db point m = laid_entries db point m.entries

-- the Takes after this effect, given those before
abbrev pub taken_by : Effect → List (List ℕ × Option (List ℕ)) → List (List ℕ × Option (List ℕ))
taken_by (Moves phase point) taken = if is_resolve phase then [] else taken
taken_by (Takes key content) taken = taken ++ (key, content) ∷ []
taken_by other taken = taken

-- the Takes since the last point's token, in order: the key and what it was taken with
abbrev pub taken : History → List (List ℕ × Option (List ℕ))
taken [] = []
taken (step ∷ history) = taken_by (effect step) (taken history)

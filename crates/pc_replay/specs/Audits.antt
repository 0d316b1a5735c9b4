-- When a complete file is correct.
use Rattle.std.specs.Prelude.{◌≡◌, List, IsTrue}
use Rattle.pc_types.specs.declared.Entry.{Entry}
use Rattle.pc_replay.specs.declared.audits.CompleteFile.{CompleteFile}
use Rattle.pc_types.specs.declared.Triple.{Triple}
use Rattle.pc_model.specs.Maps.{from_list}
use Rattle.pc_model.specs.Database.{Database, KeysRise}
use Rattle.pc_model.specs.Log.{has_token, state_at}
use Rattle.pc_model.specs.Points.{Triples, laid}
use Rattle.pc_model.specs.TripleLists.{map_entries}
use Rattle.pc_replay.specs.Laying.{laid_in_turn}

-- the triples of a list
abbrev pub triples_from : List Triple → Triples
triples_from triples = from_list (map_entries triples)

-- the file's triples ascend strictly by key
abbrev pub TriplesRise : CompleteFile → Type 0
TriplesRise file = KeysRise (map_entries file.triples.items)

-- the log has the token of the file's point, and the file, applied to the base, which is at 0, is the state of the point
pub record IsRight (base : Database) (log : List Entry) (file : CompleteFile) : Type 0 where
  pub has_point : IsTrue (has_token file.point log)
  pub is_the_state : laid base 0 (triples_from file.triples.items) ≡ state_at base log file.point

-- the same if the triples are laid in order
pub record IsRightInTurn (base : Database) (log : List Entry) (file : CompleteFile) : Type 0 where
  pub has_point : IsTrue (has_token file.point log)
  pub is_the_state : laid_in_turn base 0 file.triples.items ≡ state_at base log file.point

-- The state of a point, from a base, part files and a log, whatever bytes they are.
use Rattle.std.specs.Prelude.{ℕ, ◌==◌, not, nat_lt, Bool, false, List, [], filter, Option, Some, None, Result, Ok, Err, if◌then◌else◌}
use Rattle.std.specs.Global.{Vec}
use Rattle.pc_types.specs.declared.refusal.Refusal.{Refusal}
use Rattle.pc_types.specs.declared.Entry.{Entry}
use Rattle.pc_io.specs.Fields.{◌>>=◌}
use Rattle.pc_model.specs.Database.{Database, database_of}
use Rattle.pc_model.specs.Files.{File}
use Rattle.pc_model.specs.LaidFiles.{greatest}
use Rattle.pc_model.specs.Log.{after, front, has_token}
use Rattle.pc_part.specs.Reading.{part_at}
use Rattle.pc_bases.specs.Reading.{base_at}
use Rattle.pc_recover.specs.Recovery.{Recovery, recovery, log_of_run, entries_after}

-- the bytes are the text of a part that has a point above n
abbrev pub has_above : ℕ → Result File Refusal → Bool
has_above n (Ok file) = nat_lt n (greatest file.points)
has_above n (Err why) = false

abbrev pub is_above : ℕ → List ℕ → Bool
is_above n bytes = has_above n (part_at bytes)

-- the parts without those that have a point above n
abbrev pub parts_to : ℕ → List (List ℕ) → List (List ℕ)
parts_to n parts = filter (λ bytes. not (is_above n bytes)) parts

-- the state of n, where these entries come next after a database: the database after the commits before n's token, if they have it
abbrev pub state_before : ℕ → Database → List Entry → Option Database
state_before n db entries = if has_token n entries then Some (after db (front n entries)) else None

-- the same of a run's log and the state of the point m: the entries behind m's token come next, all where m is 0
abbrev pub log_state : ℕ → ℕ → ℕ → Database → List ℕ → Result (Option Database) Refusal
log_state run m n db log_bytes = do
  log ← log_of_run run log_bytes
  Ok (state_before n db (entries_after m log.entries))

-- the state of n from what the parts up to n gave: that itself where it is the state of n, else from there by the run's log
abbrev pub state_from : ℕ → ℕ → Recovery → List ℕ → Result (Option Database) Refusal
state_from run n found log_bytes = if found.point == n then Ok (Some found.pairs) else log_state run found.point n found.pairs log_bytes

-- The state of the point n: the parts without a point above n are recovered on the base, without the log; from the state of the
-- point that they give the log's commits up to n's token are applied. None where neither reaches n.
unfoldable pub point_state : ℕ → List ℕ → List (List ℕ) → List ℕ → Result (Option Database) Refusal
point_state n base_bytes parts log_bytes = do
  base ← base_at base_bytes
  found ← recovery base_bytes (parts_to n parts) []
  state_from base.run n found log_bytes

-- the database of pairs that may be there
abbrev pub found_database : Option (Vec (List ℕ × List ℕ)) → Option Database
found_database None = None
found_database (Some pairs) = Some (database_of pairs.items)

-- Replaying a log from a point's token on.
use Rattle.std.specs.Prelude.{ℕ, Bool, false, List, length, Option, Result, Ok, if◌then◌else◌}
use Rattle.pc_types.specs.declared.Entry.{Entry}
use Rattle.pc_types.specs.declared.Entry.TheVariants.{Commit, Token}
use Rattle.pc_types.specs.declared.refusal.Refusal.{Refusal}
use Rattle.pc_io.specs.Fields.{◌>>=◌}
use Rattle.pc_model.specs.Database.{Database}
use Rattle.pc_model.specs.Log.{after, log_after_point, is_token_of}
use Rattle.pc_log.specs.Reading.{LogReading}
use Rattle.pc_recover.specs.declared.replaying.Replayed.{Replayed}
use Rattle.pc_recover.specs.Recovery.{entries_after, log_of_run}

-- the entry is the point's token
abbrev pub is_point_token : ℕ → Entry → Bool
is_point_token point (Commit session writes) = false
is_point_token point (Token phase m) = is_token_of point phase m

-- the entries that count: all if the point's token is before them, otherwise those after it
abbrev pub counting : Bool → ℕ → List Entry → List Entry
counting is_behind point entries = if is_behind then entries else log_after_point point entries

-- the effect of a log on a database: the database after the entries that count, the number of entries, and the fault of the log's rest
pub record Replay : Type 0 where
  pub pairs : Database
  pub entries : ℕ
  pub fault : Option Refusal

-- the effect of these entries, with this fault after them
abbrev pub replay_of : ℕ → Database → List Entry → Option Refusal → Replay
replay_of point db entries fault = record { pairs = after db (entries_after point entries); entries = length entries; fault = fault }

-- the effect of all entries that were found in bytes
abbrev pub found_replay : ℕ → Database → LogReading → Replay
found_replay point db found = replay_of point db found.entries found.fault

-- the effect of the bytes of the run's log
abbrev pub log_replay : ℕ → ℕ → Database → List ℕ → Result Replay Refusal
log_replay run point db bytes = do
  log ← log_of_run run bytes
  Ok (replay_of point db log.entries log.fault)

-- the replay of a call
abbrev pub replay_by : Replayed → Replay
replay_by replayed = record { pairs = replayed.database; entries = replayed.entries; fault = replayed.fault }

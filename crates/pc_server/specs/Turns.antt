-- The progress of a process that serves.
use Rattle.std.specs.Prelude.{◌≡◌, ◌≤◌, ◌+◌, ◌-◌, ◌^◌, ℕ, List, [], length, min, nat_lt, slice_get, Bool, Some, if◌then◌else◌}
use Rattle.pc_io.specs.Tallies.{inner_of}
use Rattle.pc_types.specs.declared.Entry.{Entry}
use Rattle.pc_model.specs.History.{History, log_of}
use Rattle.pc_model.specs.Replies.{Setting}
use Rattle.pc_log.specs.Texts.{entry_text}
use Rattle.pc_turn.specs.Turns.{AreMarks}
use Rattle.pc_serving.specs.Serving.{Serves}
use Rattle.pc_serving.specs.declared.pace.Pace.{Pace}
use Rattle.pc_server.specs.Acts.{Act, Lead, answers_of, commits_in, log_size}
use Rattle.pc_server.specs.declared.counts.Counts.{Counts}
use Rattle.pc_server.specs.declared.server.Server.{Server}

-- the pace after a line, which has made a commit if the log has more entries than before
abbrev pub paced : Pace → ℕ → ℕ → Pace
paced pace before after = if nat_lt before after then record pace { commits = min (pace.commits + 1) (2 ^ 64 - 1) } else pace

-- the counts of a log
abbrev pub AreCounts : ℕ → List Entry → Counts → Type 0
AreCounts run log counts = (counts.commits ≡ min (commits_in log) (2 ^ 64 - 1)) × (counts.bytes ≡ log_size run log)

-- the entry that the log has after that many first ones was counted, if there is one: a commit, or else a token
pub record IsNoted (commits : Bool) (log : List Entry) (before : ℕ) (old new : Counts) : Type 0 where
  pub none : length log ≤ before → new ≡ old
  pub some : (entry : Entry) → slice_get log before ≡ Some entry → new ≡ record { commits = if commits then min (old.commits + 1) (2 ^ 64 - 1) else old.commits; bytes = min (old.bytes + length (entry_text entry)) (2 ^ 64 - 1) }

-- It did the acts `gone`, whose answers were sent, and then those of the turn, whose answers wait. Of the log as it was when the last
-- answers were sent all is written, and at most as many entries as the lag are not kept.
pub record Stays (st : Setting) (gone : List Act) (at : History) (turn : List Act) (history : History) (server : Server) : Type 0 where
  pub serves : Serves st server.served.world server.served.waiting history
  pub gone_by : Lead st [] gone at
  pub turn_by : Lead st at turn history
  pub waiting : (inner_of server.answers).items ≡ answers_of turn
  pub written : length (log_of at) ≤ server.marks.written
  pub kept : length (log_of at) ≤ server.marks.kept + server.lag
  pub within : AreMarks (log_of history) server.marks
  pub counts : AreCounts st.run (log_of history) server.counts

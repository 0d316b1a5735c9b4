-- A log in memory.
use Rattle.std.specs.Prelude.{ℕ, ◌≤◌, List, [], ◌++◌, Option, Some, None}
use Rattle.pc_types.specs.declared.Entry.{Entry}
use Rattle.pc_types.specs.declared.Entry.TheVariants.{Commit, Token}
use Rattle.pc_types.specs.declared.Phase.{Phase}
use Rattle.pc_types.specs.declared.limits.TheConstants.{MOST_SESSIONS}
use Rattle.pc_types.specs.declared.Write.{Write}
use Rattle.pc_model.specs.DistinctWrites.{AreDistinct}
use Rattle.pc_kept_log.specs.declared.log.Log.{Log}
use Rattle.pc_kept_log.specs.Chunks.{entries_in_pieces}

-- its entries, the oldest first
abbrev pub entries_of : Log → List Entry
entries_of log = entries_in_pieces log.full.items ++ log.open.entries

-- there is memory for one more entry, of that many bytes
abbrev pub HasRoomForEntry : Log → ℕ → Type 0
HasRoomForEntry log size = size ≤ log.open.room

-- a log can have the entry, apart from the number of its writes: a commit is of a session from 1 to 64, and no two of its writes
-- have one key; a token is of a point from 1 on
abbrev pub IsFitEntry : Entry → Type 0
IsFitEntry (Commit session writes) = (1 ≤ session) × (session ≤ MOST_SESSIONS) × AreDistinct writes
IsFitEntry (Token phase point) = 1 ≤ point

-- the writes of a commit's entry; none of a token's, and if there is no entry
abbrev pub writes_of_entry : Option Entry → List Write
writes_of_entry (Some (Commit session writes)) = writes
writes_of_entry other = []

-- the phase and the point of a token; a commit has none
abbrev pub token_of : Entry → Option (Phase × ℕ)
token_of (Commit session writes) = None
token_of (Token phase point) = Some (phase, point)

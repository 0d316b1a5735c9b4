-- The text of a log: the bytes that represent it, in either format. Numbers are big-endian. A word with _in takes the format;
-- the same word without it is what is written, in format 02.
use Rattle.std.specs.Prelude.{◌≡◌, ℕ, ◌≤◌, Bool, true, List, ◌∷◌, ◌++◌, length, map, codes, Some, None, All, ⊤}
use Rattle.std.specs.List.{flat_map, IsDistinct, AllByRecursion}
use Rattle.std.specs.Int.{w8, w16, w32, w64, to_be_bytes}
use Rattle.std.specs.Ordering.{nat_cmp, eq_by_cmp}
use Rattle.std.specs.Cmp.Lexicographic.{slice_cmp}
use Rattle.pc_types.specs.declared.Entry.{Entry}
use Rattle.pc_types.specs.declared.Entry.TheVariants.{Commit, Token}
use Rattle.pc_types.specs.declared.Phase.{Phase}
use Rattle.pc_types.specs.declared.Phase.TheVariants.{Rest, Prepare, Resolve, Capture, Complete}
use Rattle.pc_types.specs.declared.Change.{Change}
use Rattle.pc_types.specs.declared.Change.TheVariants.{Set, Remove, Add}
use Rattle.pc_types.specs.declared.Write.{Write}
use Rattle.pc_types.specs.Changes.{fits_i64, number_text}
use Rattle.pc_io.specs.declared.Format.{Format}
use Rattle.pc_io.specs.declared.Format.TheVariants.{First, Second}
use Rattle.pc_io.specs.Fields.{key_text_in, content_text, HasKey}
use Rattle.pc_types.specs.Limits.{IsKey, IsValue}
use Rattle.pc_types.specs.declared.limits.TheConstants.{MOST_POINTS, MOST_SESSIONS, MOST_WRITES}

-- the magic of a log of a format
abbrev pub log_magic : Format → List ℕ
log_magic First = codes "PCALCL01"
log_magic Second = codes "PCALCL02"

-- the header: the magic, the run, and the base point, which is 0
abbrev pub header_text_in : Format → ℕ → List ℕ
header_text_in format run = log_magic format ++ (to_be_bytes w64 run ++ to_be_bytes w32 0)

-- the effect of a write on its key: the kind, and after it the value that is set, or the number that is added
abbrev pub change_text : Change → List ℕ
change_text Remove = content_text None
change_text (Set value) = content_text (Some value)
change_text (Add d) = 2 ∷ number_text d

-- a write: its key, and what it does to it
abbrev pub write_text_in : Format → Write → List ℕ
write_text_in format write = key_text_in format write.key ++ change_text write.change

-- the number that represents a phase
abbrev pub phase_number : Phase → ℕ
phase_number Rest = 0
phase_number Prepare = 1
phase_number Resolve = 2
phase_number Capture = 3
phase_number Complete = 4

-- the bytes of an entry after its length: of a commit its kind, its session, and its writes with their count before them; of a
-- token its kind, its phase and its point
abbrev pub body_text_in : Format → Entry → List ℕ
body_text_in format (Commit session writes) = 1 ∷ (to_be_bytes w8 session ++ (to_be_bytes w16 (length writes) ++ flat_map (write_text_in format) writes))
body_text_in format (Token phase point) = 2 ∷ (phase_number phase ∷ to_be_bytes w32 point)

-- an entry: the length of its body, and its body
abbrev pub entry_text_in : Format → Entry → List ℕ
entry_text_in format entry = to_be_bytes w32 (length (body_text_in format entry)) ++ body_text_in format entry

-- the text of a run's entries
abbrev pub log_text_in : Format → ℕ → List Entry → List ℕ
log_text_in format run entries = header_text_in format run ++ flat_map (entry_text_in format) entries

-- ---- what is written

-- the header
abbrev pub header_text : ℕ → List ℕ
header_text run = header_text_in Second run

-- a write
abbrev pub write_text : Write → List ℕ
write_text write = write_text_in Second write

-- an entry after its length
abbrev pub body_text : Entry → List ℕ
body_text entry = body_text_in Second entry

-- the bytes of a commit before its writes
abbrev pub commit_head_text : ℕ → List Write → List ℕ
commit_head_text session writes = to_be_bytes w32 (length (body_text (Commit session writes))) ++ (1 ∷ (to_be_bytes w8 session ++ to_be_bytes w16 (length writes)))

-- an entry
abbrev pub entry_text : Entry → List ℕ
entry_text entry = entry_text_in Second entry

-- a run's entries
abbrev pub log_text : ℕ → List Entry → List ℕ
log_text run entries = log_text_in Second run entries

-- ---- what has a text

-- whether two keys have the same bytes
abbrev pub same_key : List ℕ → List ℕ → Bool
same_key = eq_by_cmp (slice_cmp nat_cmp)

-- the keys that are written, in order
abbrev pub keys_of : List Write → List (List ℕ)
keys_of writes = map (λ (write : Write). write.key) writes

-- a change within the limits of values and numbers
abbrev pub IsChange : Change → Type 0
IsChange Remove = ⊤
IsChange (Set value) = IsValue value
IsChange (Add d) = fits_i64 d ≡ true

-- a write within the limits of keys, values and numbers
abbrev pub IsWrite : Write → Type 0
IsWrite write = IsKey write.key × IsChange write.change

-- a commit that has a text: of a session from 1 to 64, of at most 256 writes within their limits, and of no key twice
pub record IsCommit (session : ℕ) (writes : List Write) : Type 0 where
  pub first_session : 1 ≤ session
  pub last_session : session ≤ MOST_SESSIONS
  pub count : length writes ≤ MOST_WRITES
  pub in_limits : AllByRecursion IsWrite writes
  pub once : IsDistinct same_key (keys_of writes)

-- a token's point is 1 to 65,535
pub record IsTokenPoint (point : ℕ) : Type 0 where
  pub first : 1 ≤ point
  pub last : point ≤ MOST_POINTS

-- an entry within its limits
abbrev pub IsEntry : Entry → Type 0
IsEntry (Commit session writes) = IsCommit session writes
IsEntry (Token phase point) = IsTokenPoint point

-- the format has a text of the entry: of each key that it writes
abbrev pub HasEntry : Format → Entry → Type 0
HasEntry format (Commit session writes) = AllByRecursion (λ (write : Write). HasKey format write.key) writes
HasEntry format (Token phase point) = ⊤

-- the format has a text of each of the entries
abbrev pub HasLog : Format → List Entry → Type 0
HasLog format entries = All (HasEntry format) entries

-- the bytes are a text of these entries, of either format
abbrev pub IsLogText : List ℕ → ℕ → List Entry → Type 0
IsLogText bytes run entries = (format : Format) × HasLog format entries × (bytes ≡ log_text_in format run entries)

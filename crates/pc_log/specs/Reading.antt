-- Reading a log's text from left to right, with the first fault that is met.
use Rattle.std.specs.Prelude.{ℕ, zero, suc, ◌+◌, ◌*◌, Bool, not, List, [], ◌∷◌, ◌++◌, length, Option, Some, None, Result, Ok, Err, nat_le, ◌==◌, ◌&&◌}
use Rattle.std.specs.List.{list_any}
use Rattle.std.specs.Int.{w16, w32, w64, cast_signed}
use Rattle.pc_types.specs.declared.refusal.Refusal.{Refusal}
use Rattle.pc_types.specs.declared.refusal.Refusal.TheVariants.{Short, BadRanges, KeyOrder, BadKind, BadLength, Trailing, TokenOrder}
use Rattle.pc_types.specs.declared.Entry.{Entry}
use Rattle.pc_types.specs.declared.Entry.TheVariants.{Commit, Token}
use Rattle.pc_types.specs.declared.Phase.{Phase}
use Rattle.pc_types.specs.declared.Phase.TheVariants.{Rest, Prepare, Resolve, Capture, Complete}
use Rattle.pc_types.specs.declared.Change.{Change}
use Rattle.pc_types.specs.declared.Change.TheVariants.{Set, Remove, Add}
use Rattle.pc_types.specs.declared.Write.{Write}
use Rattle.pc_io.specs.declared.Format.{Format}
use Rattle.pc_io.specs.declared.Format.TheVariants.{First, Second}
use Rattle.pc_io.specs.Fields.{◌>>=◌, where_true, bytes_at, number_at, magic_at, space_bytes, key_at, value_at}
use Rattle.pc_types.specs.declared.limits.TheConstants.{MOST_KEY_BYTES, MOST_VALUE_BYTES, MOST_SESSIONS, MOST_WRITES}
use Rattle.pc_log.specs.declared.order.LastToken.{LastToken}
use Rattle.pc_log.specs.declared.reading.LogText.{LogText}
use Rattle.pc_log.specs.Texts.{log_magic, same_key}
use Rattle.pc_log.specs.Orders.{comes_next, token_after, no_token}

-- A field is its value and the bytes after it. In a body the fault of a missing byte is BadLength.

-- a byte of a body
abbrev pub byte_at : List ℕ → Result (ℕ × List ℕ) Refusal
byte_at [] = Err BadLength
byte_at (byte ∷ rest) = Ok (byte, rest)

-- one of the writes has this key
abbrev pub is_written : List Write → List ℕ → Bool
is_written writes key = list_any (λ (write : Write). same_key key write.key) writes

-- the effect of a write on its key: a kind of 0 and nothing, of 1 and a value, or of 2 and a number in two's complement
unfoldable pub change_at : List ℕ → Result (Change × List ℕ) Refusal
change_at [] = Err BadLength
change_at (zero ∷ rest) = Ok (Remove, rest)
change_at (suc zero ∷ rest) = do
  value ← value_at BadLength rest
  Ok (Set value.0, value.1)
change_at (suc (suc zero) ∷ rest) = do
  number ← number_at BadLength w64 rest
  Ok (Add (cast_signed w64 number.0), number.1)
change_at (suc (suc (suc kind)) ∷ rest) = Err BadKind

-- a write whose key none of the earlier ones has
unfoldable pub write_at : Format → List Write → List ℕ → Result (Write × List ℕ) Refusal
write_at format earlier bytes = do
  key ← key_at format BadLength bytes
  first ← where_true (not (is_written earlier key.0)) KeyOrder key
  change ← change_at first.1
  Ok (record { key = first.0; change = change.0 }, change.1)

-- the earlier writes, and that many more
unfoldable pub writes_at : Format → ℕ → List Write → List ℕ → Result (List Write × List ℕ) Refusal
writes_at format zero earlier bytes = Ok (earlier, bytes)
writes_at format (suc count) earlier bytes = do
  write ← write_at format earlier bytes
  writes_at format count (earlier ++ write.0 ∷ []) write.1

-- what a commit has after its kind
unfoldable pub commit_at : Format → List ℕ → Result (Entry × List ℕ) Refusal
commit_at format bytes = do
  session ← byte_at bytes
  lawful ← where_true (nat_le 1 session.0 && nat_le session.0 MOST_SESSIONS) BadLength session
  count ← number_at BadLength w16 lawful.1
  few ← where_true (nat_le count.0 MOST_WRITES) BadLength count
  writes ← writes_at format few.0 [] few.1
  Ok (Commit lawful.0 writes.0, writes.1)

-- the phase that a number represents
abbrev pub phase_numbered : ℕ → Result Phase Refusal
phase_numbered zero = Ok Rest
phase_numbered (suc zero) = Ok Prepare
phase_numbered (suc (suc zero)) = Ok Resolve
phase_numbered (suc (suc (suc zero))) = Ok Capture
phase_numbered (suc (suc (suc (suc zero)))) = Ok Complete
phase_numbered (suc (suc (suc (suc (suc number))))) = Err BadKind

-- what a token has after its kind; it comes next after the last one
unfoldable pub token_at : LastToken → List ℕ → Result (Entry × List ℕ) Refusal
token_at last bytes = do
  number ← byte_at bytes
  phase ← phase_numbered number.0
  point ← number_at BadLength w32 number.1
  where_true (comes_next last phase point.0) TokenOrder (Token phase point.0, point.1)

-- what an entry of this kind has after its kind
unfoldable pub kind_at : Format → ℕ → LastToken → List ℕ → Result (Entry × List ℕ) Refusal
kind_at format (suc zero) last bytes = commit_at format bytes
kind_at format (suc (suc zero)) last bytes = token_at last bytes
kind_at format other last bytes = Err BadKind

-- the body of an entry, all of the bytes
unfoldable pub body_at : Format → LastToken → List ℕ → Result Entry Refusal
body_at format last bytes = do
  kind ← byte_at bytes
  entry ← kind_at format kind.0 last kind.1
  where_true (length entry.1 == 0) Trailing entry.0

-- the bytes of the longest body: those of the most writes, of the longest keys and values, each with two for the length of its
-- key, one for its kind and four for the length of its value; and in front of them four
abbrev pub most_body_bytes : Format → ℕ
most_body_bytes format = 4 + MOST_WRITES * (2 + (space_bytes format + MOST_KEY_BYTES) + 1 + (4 + MOST_VALUE_BYTES))

-- an entry, its length before it; the body is read once all its bytes are there
unfoldable pub entry_at : Format → LastToken → List ℕ → Result (Entry × List ℕ) Refusal
entry_at format last bytes = do
  size ← number_at Short w32 bytes
  lawful ← where_true (nat_le 1 size.0 && nat_le size.0 (most_body_bytes format)) BadLength size
  body ← bytes_at Short lawful.0 lawful.1
  entry ← body_at format last body.0
  Ok (entry, body.1)

-- the entries that can be read in order, how many bytes are left, and the fault that stopped the reading
pub record LogReading : Type 0 where
  pub entries : List Entry
  pub rest : ℕ
  pub fault : Option Refusal

-- this is the fault of the bytes, if there are any
abbrev pub fault_of_rest : List ℕ → Refusal → Option Refusal
fault_of_rest [] fault = None
fault_of_rest (byte ∷ bytes) fault = Some fault

-- no entry can be read: the bytes are left
abbrev pub none_more : List ℕ → Refusal → LogReading
none_more bytes fault = record { entries = []; rest = length bytes; fault = fault_of_rest bytes fault }

-- one entry more, in front
abbrev pub with_entry : Entry → LogReading → LogReading
with_entry entry found = record found { entries = entry ∷ found.entries }

-- the entry that was read and what is found after it, or none more
abbrev pub reading_from_entry : List ℕ → Result (Entry × List ℕ) Refusal → (Entry × List ℕ → LogReading) → LogReading
reading_from_entry bytes (Ok entry) behind = with_entry entry.0 (behind entry)
reading_from_entry bytes (Err fault) behind = none_more bytes fault

-- As many entries as can be read. Each takes some of the bytes, so that as many turns as there are bytes are enough.
unfoldable pub entries_at : Format → ℕ → LastToken → List ℕ → LogReading
entries_at format zero last bytes = none_more bytes Short
entries_at format (suc turns) last bytes = reading_from_entry bytes (entry_at format last bytes) (λ entry. entries_at format turns (token_after last entry.0) entry.1)

-- what is read of a log's text
pub record LogRead : Type 0 where
  pub run : ℕ
  pub entries : List Entry
  pub rest : ℕ
  pub fault : Option Refusal

-- the same with its run
abbrev pub of_run : ℕ → LogReading → LogRead
of_run run found = record { run = run; entries = found.entries; rest = found.rest; fault = found.fault }

-- the header: the format, the run, and the bytes after it
unfoldable pub header_at : List ℕ → Result (Format × ℕ × List ℕ) Refusal
header_at bytes = do
  start ← magic_at (log_magic First) (log_magic Second) bytes
  run ← number_at Short w64 start.1
  base ← number_at Short w32 run.1
  where_true (base.0 == 0) BadRanges (start.0, run.0, base.1)

-- all of the bytes: the header, and the entries after it in the header's format
unfoldable pub log_at : List ℕ → Result LogRead Refusal
log_at bytes = do
  header ← header_at bytes
  Ok (of_run header.1 (entries_at header.0 (length header.2) no_token header.2))

-- what a call has read, without where it lies in memory
abbrev pub log_read : LogText → LogRead
log_read text = record { run = text.run; entries = text.entries.items; rest = text.rest; fault = text.fault }

-- all that can be read
abbrev pub all_at : Format → LastToken → List ℕ → LogReading
all_at format last bytes = entries_at format (length bytes) last bytes

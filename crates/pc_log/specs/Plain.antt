-- Reading entries of bytes that are known to be their texts in format 02: each by itself, whatever token was before it.
use Rattle.std.specs.Prelude.{ℕ, zero, suc, List, [], ◌∷◌, length, Result, Ok, Err, nat_le}
use Rattle.std.specs.Int.{w32}
use Rattle.pc_types.specs.declared.refusal.Refusal.{Refusal}
use Rattle.pc_types.specs.declared.refusal.Refusal.TheVariants.{Short, BadKind, BadLength, TokenOrder}
use Rattle.pc_types.specs.declared.limits.TheConstants.{MOST_POINTS}
use Rattle.pc_types.specs.declared.Entry.{Entry}
use Rattle.pc_types.specs.declared.Entry.TheVariants.{Token}
use Rattle.pc_io.specs.declared.Format.TheVariants.{Second}
use Rattle.pc_io.specs.Fields.{◌>>=◌, where_true, bytes_at, number_at}
use Rattle.pc_log.specs.Reading.{byte_at, phase_numbered, commit_at}

-- what a token has after its kind
unfoldable pub plain_token_at : List ℕ → Result (Entry × List ℕ) Refusal
plain_token_at bytes = do
  number ← byte_at bytes
  phase ← phase_numbered number.0
  point ← number_at BadLength w32 number.1
  where_true (nat_le point.0 MOST_POINTS) TokenOrder (Token phase point.0, point.1)

-- what an entry of this kind has after its kind
unfoldable pub plain_kind_at : ℕ → List ℕ → Result (Entry × List ℕ) Refusal
plain_kind_at (suc zero) bytes = commit_at Second bytes
plain_kind_at (suc (suc zero)) bytes = plain_token_at bytes
plain_kind_at other bytes = Err BadKind

-- the body of an entry
unfoldable pub plain_body_at : List ℕ → Result (Entry × List ℕ) Refusal
plain_body_at bytes = do
  kind ← byte_at bytes
  plain_kind_at kind.0 kind.1

-- an entry, its length before it
unfoldable pub plain_entry_at : List ℕ → Result (Entry × List ℕ) Refusal
plain_entry_at bytes = do
  size ← number_at Short w32 bytes
  body ← bytes_at Short size.0 size.1
  entry ← plain_body_at body.0
  Ok (entry.0, body.1)

-- the entry that was read, and those after it
abbrev pub and_behind : Result (Entry × List ℕ) Refusal → (List ℕ → List Entry) → List Entry
and_behind (Ok entry) behind = entry.0 ∷ behind entry.1
and_behind (Err fault) behind = []

-- at most that many entries, as far as they can be read
unfoldable pub plain_entries_at : ℕ → List ℕ → List Entry
plain_entries_at zero bytes = []
plain_entries_at (suc turns) bytes = and_behind (plain_entry_at bytes) (plain_entries_at turns)

-- the entries whose texts these bytes are; each has some of the bytes
abbrev pub entries_in : List ℕ → List Entry
entries_in bytes = plain_entries_at (length bytes) bytes

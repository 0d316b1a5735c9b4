-- The future of the text of a part.
use Rattle.std.specs.Prelude.{ℕ, zero, suc, ◌==◌, if◌then◌else◌, List, [], length, Option, Some, None, Result, Ok, Err}
use Rattle.std.specs.Int.{w32}
use Rattle.pc_io.specs.Counted.{one_more}
use Rattle.pc_io.specs.Fields.{◌>>=◌, number_at}
use Rattle.pc_types.specs.declared.Refusal.{Refusal}
use Rattle.pc_types.specs.declared.Refusal.TheVariants.{Short, BadLength, Trailing}
use Rattle.pc_types.specs.declared.Triple.{Triple}
use Rattle.pc_io.specs.declared.formats.Format.{Format}
use Rattle.pc_part.specs.declared.ranges.Range.{Range}
use Rattle.pc_part.specs.Reading.{next_entry_at, part_header_at}
use Rattle.pc_merge.specs.Coming.{Coming, ended, refused, after_entry}

-- the end of a part after that many entries: their number, and nothing more
abbrev pub part_end_at : ℕ → Result (ℕ × List ℕ) Refusal → Coming
part_end_at count (Err why) = refused why
part_end_at count (Ok total) = if total.0 == count then (if length total.1 == 0 then ended else refused Trailing) else refused BadLength

-- what comes from an entry on, or from the end mark
abbrev pub coming_from : (List ℕ → List ℕ → Coming) → ℕ → Result (Option Triple × List ℕ) Refusal → Coming
coming_from others count (Err why) = refused why
coming_from others count (Ok (None, rest)) = part_end_at count (number_at Short w32 rest)
coming_from others count (Ok (Some entry, rest)) = after_entry entry (others entry.key rest)

-- The entries to come after a last key, with that many entries before it; the count stays at the greatest u64, which no
-- number of 4 bytes is. Each entry takes more than one of the bytes, so that no more turns are needed than there are bytes.
unfoldable pub coming_after_key : Format → ℕ → List Range → ℕ → List ℕ → List ℕ → Coming
coming_after_key format zero ranges count last bytes = refused Short
coming_after_key format (suc turns) ranges count last bytes = coming_from (coming_after_key format turns ranges (one_more count)) count (next_entry_at format ranges last bytes)

-- the same of all of the bytes
abbrev pub coming_of_bytes : Format → List Range → ℕ → List ℕ → List ℕ → Coming
coming_of_bytes format ranges count last bytes = coming_after_key format (length bytes) ranges count last bytes

-- what is to come of a part after its header
abbrev pub coming_behind : Result ((Format × (ℕ × List Range)) × List ℕ) Refusal → Coming
coming_behind (Err why) = refused why
coming_behind (Ok (header, rest)) = coming_of_bytes header.0 header.1.1 0 [] rest

-- what is to come of a part whose text is all of the bytes
abbrev pub part_coming : List ℕ → Coming
part_coming bytes = coming_behind (part_header_at bytes)

-- its run and its ranges
abbrev pub part_header : List ℕ → Result (ℕ × List Range) Refusal
part_header bytes = part_header_at bytes >>= λ header. Ok header.0.1

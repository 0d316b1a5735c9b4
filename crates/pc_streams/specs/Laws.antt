-- The law of what is to come of a part's text.
use Rattle.std.specs.Prelude.{◌≡◌, ◌<◌, ℕ, List, Option, Some, None, Result, Ok, Err}
use Rattle.std.specs.List.{All}
use Rattle.pc_io.specs.Fields.{◌>>=◌}
use Rattle.pc_types.specs.declared.Refusal.{Refusal}
use Rattle.pc_types.specs.declared.Triple.{Triple}
use Rattle.pc_part.specs.declared.ranges.Range.{Range}
use Rattle.pc_part.specs.Reading.{PartFields, part_fields_at, part_of_fields, part_at}
use Rattle.pc_merge.specs.Coming.{Coming}
use Rattle.pc_streams.specs.Coming.{part_coming, part_header}

-- the fields of a part with this header and these entries, if they come to an end, else the fault
abbrev pub fields_of : ℕ × List Range → List Triple → Option Refusal → Result PartFields Refusal
fields_of header entries None = Ok (record { run = header.0; ranges = header.1; entries = entries })
fields_of header entries (Some why) = Err why

abbrev pub fields_coming : ℕ × List Range → Coming → Result PartFields Refusal
fields_coming header coming = fields_of header coming.entries coming.fault

-- The header of a text and what is to come after it are the fields that are read of the text, with the same fault.
abbrev pub FieldsCome : Type 0
FieldsCome = (bytes : List ℕ) → All (λ byte. byte < 256) bytes → part_fields_at bytes ≡ (part_header bytes >>= λ header. fields_coming header (part_coming bytes))

-- So they are the file that is read of it.
abbrev pub PartsCome : Type 0
PartsCome = (bytes : List ℕ) → All (λ byte. byte < 256) bytes → part_at bytes ≡ (part_header bytes >>= λ header. fields_coming header (part_coming bytes) >>= λ part. Ok (part_of_fields part))

-- Reading part files: field by field, from left to right, with the first fault that is met. The magic determines
-- the format of the text.
use Rattle.std.specs.Prelude.{ℕ, zero, suc, ◌+◌, ◌-◌, ◌==◌, ◌&&◌, nat_lt, nat_le, if◌then◌else◌, List, [], ◌∷◌, length, slice_get, Option, Some, None, Result, Ok, Err}
use Rattle.std.specs.Int.{w16, w32, w64}
use Rattle.std.specs.Ordering.{is_lt}
use Rattle.pc_types.specs.declared.Refusal.{Refusal}
use Rattle.pc_types.specs.declared.Refusal.TheVariants.{Short, BadRanges, KeyOrder, BadLength, Trailing, NotCovered}
use Rattle.pc_io.specs.declared.formats.Format.{Format}
use Rattle.pc_io.specs.declared.formats.Format.TheVariants.{First, Second}
use Rattle.pc_io.specs.Fields.{◌>>=◌, where_true, number_at, magic_at, sized_key_at, content_at}
use Rattle.pc_model.specs.Database.{key_cmp}
use Rattle.pc_model.specs.Points.{AtPoint}
use Rattle.pc_model.specs.Files.{File}
use Rattle.pc_types.specs.declared.Triple.{Triple}
use Rattle.pc_types.specs.declared.limits.TheConstants.{MOST_POINTS}
use Rattle.pc_part.specs.declared.ranges.Range.{Range}
use Rattle.pc_part.specs.Parts.{covers, points_of}
use Rattle.pc_model.specs.TripleLists.{triples_of}
use Rattle.pc_part.specs.Texts.{part_magic}

-- that many items, in order, each read with what the one before it leaves
unfoldable pub items_at : {S X : Type 0} → (S → List ℕ → Result (X × List ℕ) Refusal) → (X → S) → ℕ → S → List ℕ → Result (List X × List ℕ) Refusal
items_at read leaves zero state bytes = Ok ([], bytes)
items_at read leaves (suc count) state bytes = do
  first ← read state bytes
  others ← items_at read leaves count (leaves first.0) first.1
  Ok (first.0 ∷ others.0, others.1)

-- a range that begins at this point or above
unfoldable pub range_at : ℕ → List ℕ → Result (Range × List ℕ) Refusal
range_at least bytes = do
  low ← number_at Short w32 bytes
  high ← number_at Short w32 low.1
  where_true (nat_le least low.0 && nat_le low.0 high.0 && nat_le high.0 MOST_POINTS) BadRanges (record { low = low.0; high = high.0 }, high.1)

-- that many ranges, each with at least one point left out before the next, and the first from this point on
abbrev pub ranges_at : ℕ → ℕ → List ℕ → Result (List Range × List ℕ) Refusal
ranges_at = items_at range_at (λ (r : Range). r.high + 2)

-- a key of that many bytes of its own that comes after the last one
unfoldable pub next_key_at : Format → List ℕ → ℕ → List ℕ → Result (List ℕ × List ℕ) Refusal
next_key_at format last count bytes = do
  key ← sized_key_at format Short count bytes
  where_true (is_lt (key_cmp last key.0)) KeyOrder key

-- a point of one of the ranges
unfoldable pub point_at : List Range → List ℕ → Result (ℕ × List ℕ) Refusal
point_at ranges bytes = do
  point ← number_at Short w32 bytes
  where_true (covers ranges point.0) NotCovered point

-- what a key has in an entry: a point, and what the key had there
unfoldable pub part_entry_at : List Range → List ℕ → Result (AtPoint × List ℕ) Refusal
part_entry_at ranges bytes = do
  point ← point_at ranges bytes
  content ← content_at Short point.1
  Ok (record { point = point.0; content = content.0 }, content.1)

-- the entry whose key comes after the last one, or None at the end mark, which is a length of 0 in place of a key's
unfoldable pub next_entry_at : Format → List Range → List ℕ → List ℕ → Result (Option Triple × List ℕ) Refusal
next_entry_at format ranges last bytes =
    number_at Short w16 bytes >>= λ count. if count.0 == 0 then Ok (None, count.1) else
    (next_key_at format last count.0 count.1 >>= λ key. part_entry_at ranges key.1 >>= λ there.
    Ok (Some (record { key = key.0; point = there.0.point; content = there.0.content }), there.1))

-- none at the end mark, else the entry and those that are read after its key
abbrev pub entries_from : (List ℕ → List ℕ → Result (List Triple × List ℕ) Refusal) → Option Triple → List ℕ → Result (List Triple × List ℕ) Refusal
entries_from others None bytes = Ok ([], bytes)
entries_from others (Some entry) bytes = others entry.key bytes >>= λ behind. Ok (entry ∷ behind.0, behind.1)

-- the key of the last of some entries; of none it is empty, and all keys come after it
abbrev pub key_or_empty : Option Triple → List ℕ
key_or_empty None = []
key_or_empty (Some entry) = entry.key

abbrev pub last_key : List Triple → List ℕ
last_key entries = key_or_empty (slice_get entries (length entries - 1))

-- The entries up to the end mark. Keys ascend, the first above this one. Each entry takes more than one of the bytes, so that no
-- more turns are needed than there are bytes.
unfoldable pub part_entries_at : Format → ℕ → List Range → List ℕ → List ℕ → Result (List Triple × List ℕ) Refusal
part_entries_at format zero ranges last bytes = Err Short
part_entries_at format (suc turns) ranges last bytes = next_entry_at format ranges last bytes >>= λ next. entries_from (part_entries_at format turns ranges) next.0 next.1

-- the header before the entries: the format, and the run and the ranges
unfoldable pub part_header_at : List ℕ → Result ((Format × (ℕ × List Range)) × List ℕ) Refusal
part_header_at bytes = do
  start ← magic_at (part_magic First) (part_magic Second) bytes
  run ← number_at Short w64 start.1
  count ← number_at Short w32 run.1
  some ← where_true (nat_lt 0 count.0) BadRanges count.0
  ranges ← ranges_at some 1 count.1
  Ok ((start.0, (run.0, ranges.0)), ranges.1)

-- a part file's run, ranges and entries
pub record PartFields : Type 0 where
  pub run : ℕ
  pub ranges : List Range
  pub entries : List Triple

-- the fields of a part file whose text is all of the bytes
unfoldable pub part_fields_at : List ℕ → Result PartFields Refusal
part_fields_at bytes = do
  header ← part_header_at bytes
  entries ← part_entries_at header.0.0 (length header.1) header.0.1.1 [] header.1
  total ← number_at Short w32 entries.1
  rest ← where_true (total.0 == length entries.0) BadLength total.1
  where_true (length rest == 0) Trailing (record { run = header.0.1.0; ranges = header.0.1.1; entries = entries.0 })

-- the file of a part's fields
abbrev pub part_of_fields : PartFields → File
part_of_fields part = record { run = part.run; points = points_of part.ranges; triples = triples_of part.entries }

-- the file whose text is all of the bytes
abbrev pub part_at : List ℕ → Result File Refusal
part_at bytes = do
  part ← part_fields_at bytes
  Ok (part_of_fields part)

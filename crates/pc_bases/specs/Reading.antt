-- Reading base files: field by field, from left to right, with the first fault that is met. The magic determines the format of the
-- text.
use Rattle.std.specs.Prelude.{ℕ, ◌-◌, ◌==◌, nat_le, List, [], length, slice_get, Option, Some, None, Result, Ok}
use Rattle.std.specs.Int.{w16, w32, w64}
use Rattle.pc_types.specs.declared.Refusal.{Refusal}
use Rattle.pc_types.specs.declared.Refusal.TheVariants.{Short, BadRanges, Trailing}
use Rattle.pc_io.specs.declared.formats.Format.{Format}
use Rattle.pc_io.specs.declared.formats.Format.TheVariants.{First, Second}
use Rattle.pc_types.specs.declared.limits.TheConstants.{MOST_POINTS}
use Rattle.pc_io.specs.Fields.{◌>>=◌, where_true, number_at, magic_at, value_at}
use Rattle.pc_model.specs.Database.{database_of}
use Rattle.pc_model.specs.Files.{BaseFile}
use Rattle.pc_part.specs.Reading.{items_at, next_key_at}
use Rattle.pc_bases.specs.Texts.{base_magic}

-- a pair whose key comes after the last one
unfoldable pub pair_at : Format → List ℕ → List ℕ → Result ((List ℕ × List ℕ) × List ℕ) Refusal
pair_at format last bytes = do
  count ← number_at Short w16 bytes
  key ← next_key_at format last count.0 count.1
  value ← value_at Short key.1
  Ok ((key.0, value.0), value.1)

-- the key of the last of some pairs; of none it is empty, and all keys come after it
abbrev pub pair_key_or_empty : Option (List ℕ × List ℕ) → List ℕ
pair_key_or_empty None = []
pair_key_or_empty (Some pair) = pair.0

-- the same of a list
abbrev pub last_pair_key : List (List ℕ × List ℕ) → List ℕ
last_pair_key pairs = pair_key_or_empty (slice_get pairs (length pairs - 1))

-- that many pairs, whose keys ascend, the first above this one
abbrev pub pairs_at : Format → ℕ → List ℕ → List ℕ → Result (List (List ℕ × List ℕ) × List ℕ) Refusal
pairs_at format = items_at (pair_at format) (λ (pair : List ℕ × List ℕ). pair.0)

-- a base file's run, point and pairs
pub record BaseFields : Type 0 where
  pub run : ℕ
  pub point : ℕ
  pub pairs : List (List ℕ × List ℕ)

-- the fields of a base file whose text is all of the bytes
unfoldable pub base_fields_at : List ℕ → Result BaseFields Refusal
base_fields_at bytes = do
  start ← magic_at (base_magic First) (base_magic Second) bytes
  run ← number_at Short w64 start.1
  point ← number_at Short w32 run.1
  lawful ← where_true (nat_le point.0 MOST_POINTS) BadRanges point.0
  count ← number_at Short w32 point.1
  pairs ← pairs_at start.0 count.0 [] count.1
  where_true (length pairs.1 == 0) Trailing (record { run = run.0; point = lawful; pairs = pairs.0 })

-- the base of a base file's fields
abbrev pub base_of_fields : BaseFields → BaseFile
base_of_fields base = record { run = base.run; point = base.point; pairs = database_of base.pairs }

-- the base whose text is all of the bytes
abbrev pub base_at : List ℕ → Result BaseFile Refusal
base_at bytes = do
  base ← base_fields_at bytes
  Ok (base_of_fields base)

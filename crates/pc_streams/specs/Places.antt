-- The place of a reader in the text of a part, and what is to come from there.
use Rattle.std.specs.Prelude.{◌≡◌, ℕ, Bool, false, List, [], Option, Some, Result, Ok, Err, ◌⊎◌, ⊤, None, IsTrue, if◌then◌else◌}
use Rattle.std.specs.Option.{option_map}
use Rattle.std.specs.Ordering.{is_lt}
use Rattle.pc_io.specs.Fields.{◌>>=◌}
use Rattle.pc_types.specs.declared.Refusal.{Refusal}
use Rattle.pc_types.specs.declared.Refusal.TheVariants.{OutOfMemory, Device}
use Rattle.pc_types.specs.declared.Triple.{Triple}
use Rattle.pc_io.specs.declared.formats.Format.{Format}
use Rattle.pc_model.specs.Database.{key_cmp}
use Rattle.pc_part.specs.Parts.{covers}
use Rattle.pc_part.specs.declared.ranges.Range.{Range}
use Rattle.pc_part.specs.Reading.{part_header_at}
use Rattle.pc_merge.specs.Coming.{Coming, ended, refused}
use Rattle.pc_streams.specs.Coming.{coming_of_bytes}

-- a place after the header: the format, the run and the ranges, the key of the last entry, which is empty before the first, how
-- many entries there were, and whether the end was read
pub record Place : Type 0 where
  pub format : Format
  pub run : ℕ
  pub ranges : List Range
  pub last : List ℕ
  pub count : ℕ
  pub ended : Bool

-- the place after a header
abbrev pub first_place : Format × (ℕ × List Range) → Place
first_place header = record { format = header.0; run = header.1.0; ranges = header.1.1; last = []; count = 0; ended = false }

-- the same if the header comes first in the bytes
abbrev pub first_place_at : List ℕ → Result (Place × List ℕ) Refusal
first_place_at bytes = part_header_at bytes >>= λ header. Ok (first_place header.0, header.1)

-- what is to come at a place, before bytes that may be known
abbrev pub place_coming : Place → Option (List ℕ) → Option Coming
place_coming place known = if place.ended then Some ended else option_map (coming_of_bytes place.format place.ranges place.count place.last) known

-- an entry whose key comes after the last one, of a point of one of the ranges
pub record IsNextEntry (ranges : List Range) (last : List ℕ) (entry : Triple) : Type 0 where
  pub rises : IsTrue (is_lt (key_cmp last entry.key))
  pub covered : IsTrue (covers ranges entry.point)

-- what was answered is such an entry, the end, or a refusal
abbrev pub IsLawfulNext : List Range → List ℕ → Result (Option Triple) Refusal → Type 0
IsLawfulNext ranges last (Ok (Some entry)) = IsNextEntry ranges last entry
IsLawfulNext ranges last result = ⊤

-- the last key is then that of the entry that was given
abbrev pub PassesTo : List ℕ → List ℕ → Result (Option Triple) Refusal → Type 0
PassesTo old new (Ok (Some entry)) = new ≡ entry.key
PassesTo old new (Ok None) = new ≡ old
PassesTo old new (Err why) = ⊤

-- what came to an end, if that is known, is what was to come; or memory or a device failed
abbrev pub EndsAs : Option Coming → Result (Unit {0}) Refusal → Type 0
EndsAs None result = ⊤
EndsAs (Some coming) (Ok u) = coming ≡ ended
EndsAs (Some coming) (Err why) = (coming ≡ refused why) ⊎ (why ≡ OutOfMemory) ⊎ (why ≡ Device)

-- Two passes over ascending triples, gone through together: which has the least key, and what is to become of it.
use Rattle.std.specs.Prelude.{ℕ, nat_lt, Bool, false, List, [], ◌∷◌, Option, Some, None, slice_get, if◌then◌else◌}
use Rattle.std.specs.Option.{option_map}
use Rattle.std.specs.declared.cmp.Ordering.{Ordering}
use Rattle.std.specs.declared.cmp.Ordering.TheVariants.{Less, Equal, Greater}
use Rattle.pc_types.specs.declared.Triple.{Triple}
use Rattle.pc_model.specs.Database.{key_cmp}
use Rattle.pc_model.specs.Files.{differs}
use Rattle.pc_model.specs.TripleLists.{entry_of}
use Rattle.pc_taken.specs.declared.sides.Side.{Side}
use Rattle.pc_taken.specs.declared.sides.Side.TheVariants.{First, Second, Both}

-- the side of the lesser of two keys
abbrev pub lesser_side : Ordering → Side
lesser_side Less = First
lesser_side Equal = Both
lesser_side Greater = Second

-- the same of keys that may be missing
abbrev pub side_by : Option (List ℕ) → Option (List ℕ) → Option Side
side_by None None = None
side_by (Some k) None = Some First
side_by None (Some l) = Some Second
side_by (Some k) (Some l) = Some (lesser_side (key_cmp k l))

-- the key of the first triple
abbrev pub first_triple_key : List Triple → Option (List ℕ)
first_triple_key triples = option_map (λ triple. triple.key) (slice_get triples 0)

-- which of both begins with the least key
abbrev pub least_side : List Triple → List Triple → Option Side
least_side a b = side_by (first_triple_key a) (first_triple_key b)

-- the triples after the first one
abbrev pub triples_after_first : List Triple → List Triple
triples_after_first [] = []
triples_after_first (triple ∷ triples) = triples

-- what is to come of the first after the least key
abbrev pub first_behind : Side → List Triple → List Triple
first_behind Second a = a
first_behind side a = triples_after_first a

-- what is to come of the second
abbrev pub second_behind : Side → List Triple → List Triple
second_behind First b = b
second_behind side b = triples_after_first b

-- of the first triples of both that of the least key; of two of one key that of the greater point
abbrev pub next_merged : Side → Option Triple → Option Triple → Option Triple
next_merged First a b = a
next_merged Second a b = b
next_merged Both (Some a) (Some b) = if nat_lt a.point b.point then Some b else Some a
next_merged Both (Some a) None = Some a
next_merged Both None b = b

-- two of one key clash
abbrev pub clash : Side → Option Triple → Option Triple → Bool
clash Both (Some a) (Some b) = differs (entry_of a).1 (Some (entry_of b).1)
clash side a b = false

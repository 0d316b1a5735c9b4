-- An entry that is read comes after the last key, and is of a point of one of the ranges.
use Rattle.std.proofs.Common.{◌≡◌, ℕ, Bool, true, false, cond, eqb, List, Option, Some, None, Result, Ok, subst}
use Rattle.std.specs.Ordering.{is_lt}
use Rattle.std.specs.Int.{w16, w32}
use Rattle.pc_types.specs.declared.Refusal.{Refusal}
use Rattle.pc_types.specs.declared.Refusal.TheVariants.{Short, KeyOrder, NotCovered}
use Rattle.pc_types.specs.declared.Triple.{Triple}
use Rattle.pc_io.specs.declared.formats.Format.{Format}
use Rattle.pc_io.specs.Fields.{◌>>=◌, where_true, number_at, sized_key_at, content_at}
use Rattle.pc_io.proofs.FieldLaws.{bind_ok, where_ok, ok_is}
use Rattle.pc_model.specs.Database.{key_cmp}
use Rattle.pc_model.specs.Points.{AtPoint}
use Rattle.pc_part.specs.declared.ranges.Range.{Range}
use Rattle.pc_part.specs.Parts.{covers}
use Rattle.pc_part.specs.Reading.{next_key_at, point_at, part_entry_at, next_entry_at}
use Rattle.pc_streams.specs.Places.{IsNextEntry, IsLawfulNext}

pub key_rises : (format : Format) (last : List ℕ) (count : ℕ) (bytes : List ℕ) (key : List ℕ × List ℕ) → next_key_at format last count bytes ≡ Ok key → is_lt (key_cmp last key.0) ≡ true
unfolding next_key_at
key_rises format last count bytes key is =
    let k = bind_ok (sized_key_at format Short count bytes) (λ read. where_true (is_lt (key_cmp last read.0)) KeyOrder read) key is in
    let w = where_ok (is_lt (key_cmp last k.0.0)) KeyOrder k.0 key k.2 in
    subst (λ (x : List ℕ × List ℕ). is_lt (key_cmp last x.0) ≡ true) w.1 w.0

point_covered : (ranges : List Range) (bytes : List ℕ) (point : ℕ × List ℕ) → point_at ranges bytes ≡ Ok point → covers ranges point.0 ≡ true
unfolding point_at
point_covered ranges bytes point is =
    let k = bind_ok (number_at Short w32 bytes) (λ read. where_true (covers ranges read.0) NotCovered read) point is in
    let w = where_ok (covers ranges k.0.0) NotCovered k.0 point k.2 in
    subst (λ (x : ℕ × List ℕ). covers ranges x.0 ≡ true) w.1 w.0

abbrev pub There : Type 0
There = AtPoint × List ℕ

abbrev at_point : ℕ → Option (List ℕ) → AtPoint
at_point point content = record { point = point; content = content }

abbrev with_content : ℕ → Option (List ℕ) × List ℕ → Result There Refusal
with_content point content = Ok (at_point point content.0, content.1)

entry_covered : (ranges : List Range) (bytes : List ℕ) (there : There) → part_entry_at ranges bytes ≡ Ok there → covers ranges there.0.point ≡ true
unfolding part_entry_at
entry_covered ranges bytes there is =
    let p = bind_ok (point_at ranges bytes) (λ point. content_at Short point.1 >>= with_content point.0) there is in
    let c = bind_ok (content_at Short p.0.1) (with_content p.0.0) there p.2 in
    subst (λ (x : There). covers ranges x.0.point ≡ true) (ok_is (at_point p.0.0 c.0.0, c.0.1) there c.2) (point_covered ranges bytes p.0 p.1)

abbrev pub Next : Type 0
Next = Option Triple × List ℕ

abbrev pub triple : List ℕ → AtPoint → Triple
triple key there = record { key = key; point = there.point; content = there.content }

abbrev pub with_entry : List ℕ → There → Result Next Refusal
with_entry key there = Ok (Some (triple key there.0), there.1)

abbrev pub with_key : List Range → List ℕ × List ℕ → Result Next Refusal
with_key ranges key = part_entry_at ranges key.1 >>= with_entry key.0

-- the bytes after a length
behind_length : (format : Format) (ranges : List Range) (last : List ℕ) (t : Bool) (count : ℕ) (rest : List ℕ) (next : Next) → cond t (Ok (None, rest)) (next_key_at format last count rest >>= with_key ranges) ≡ Ok next → IsLawfulNext ranges last (Ok next.0)
behind_length format ranges last true count rest next is = subst (λ (x : Next). IsLawfulNext ranges last (Ok x.0)) (ok_is (None, rest) next is) tt
behind_length format ranges last false count rest next is =
    let k = bind_ok (next_key_at format last count rest) (with_key ranges) next is in
    let e = bind_ok (part_entry_at ranges k.0.1) (with_entry k.0.0) next k.2 in
    let entry : IsNextEntry ranges last (triple k.0.0 e.0.0) = record { rises = key_rises format last count rest k.0 k.1; covered = entry_covered ranges k.0.1 e.0 e.1 } in
    subst (λ (x : Next). IsLawfulNext ranges last (Ok x.0)) (ok_is (Some (triple k.0.0 e.0.0), e.0.1) next e.2) entry

abbrev with_count : Format → List Range → List ℕ → ℕ × List ℕ → Result Next Refusal
with_count format ranges last count = cond (eqb count.0 0) (Ok (None, count.1)) (next_key_at format last count.0 count.1 >>= with_key ranges)

pub next_lawful : (format : Format) (ranges : List Range) (last bytes : List ℕ) (next : Option Triple) (rest : List ℕ) → next_entry_at format ranges last bytes ≡ Ok (next, rest) → IsLawfulNext ranges last (Ok next)
unfolding next_entry_at
next_lawful format ranges last bytes next rest is =
    let n = bind_ok (number_at Short w16 bytes) (with_count format ranges last) (next, rest) is in
    behind_length format ranges last (eqb n.0.0 0) n.0.0 n.0.1 (next, rest) n.2

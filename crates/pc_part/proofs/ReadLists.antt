-- Reading in order, as a loop does, and what is read so.
use Rattle.std.proofs.Common.{◌≡◌, ℕ, suc, ◌+◌, ◌-◌, ◌<◌, ◌≤◌, ◌&&◌, ◌||◌, nat_le, true, false, List, [], ◌∷◌, ◌++◌, length, slice_get, Some, None, Result, Ok, Err, refl, sym, ap, subst, ◌∙◌, arith}
use Rattle.std.specs.Int.{w32}
use Rattle.std.proofs.lemmas.Bool.Decides.{nat_tests}
use Rattle.std.proofs.lemmas.List.{append-nil, length-append}
use Rattle.pc_types.specs.declared.Refusal.{Refusal}
use Rattle.pc_types.specs.declared.Refusal.TheVariants.{Short, BadRanges}
use Rattle.pc_io.specs.declared.formats.Format.{Format}
use Rattle.pc_io.specs.Fields.{◌>>=◌, where_true, number_at}
use Rattle.pc_io.proofs.FieldLaws.{bind_ok, where_ok}
use Rattle.pc_types.specs.declared.Triple.{Triple}
use Rattle.pc_part.specs.declared.ranges.Range.{Range}
use Rattle.pc_part.specs.Parts.{RangesFrom, covers}
use Rattle.pc_part.specs.Reading.{range_at, next_entry_at, key_or_empty, last_key, part_entries_at}
use Rattle.pc_part.proofs.ItemLaws.{with_front, regroup}
use Rattle.pc_part.proofs.ListLaws.{added_last}

-- a point of such ranges is at most 65,535
pub covered_fits : (least : ℕ) (ranges : List Range) (point : ℕ) → RangesFrom least ranges → covers ranges point ≡ true → point ≤ 65535
covered_fits least [] point h e = absurd cc
covered_fits least (r ∷ ranges) point h e =
    let high : r.high ≤ 65535 = h.2 in
    elim (nat_le r.low point && nat_le point r.high) as (λ b. (nat_le r.low point && nat_le point r.high) ≡ b → (b || covers ranges point) ≡ true → point ≤ 65535) [
      | true ↦ λ is _. grind (arith, nat_tests)
      | false ↦ λ _ rest. covered_fits (r.high + 2) ranges point h.3 rest
    ] refl e

-- the last key is that of the entry that was added
pub last_key_is : (entries : List Triple) (entry : Triple) → last_key (entries ++ entry ∷ []) ≡ entry.key
last_key_is entries entry =
    let before : length (entries ++ entry ∷ []) - 1 ≡ length entries = omega (arith, length-append entries (entry ∷ [])) in
    ap (λ (n : ℕ). key_or_empty (slice_get (entries ++ entry ∷ []) n)) before ∙ ap key_or_empty (added_last entries entry)

-- one turn of reading entries: nothing at the end mark, else an entry
module _ (format : Format) (front : List Triple) (count i : ℕ) (ranges : List Range) (last bytes : List ℕ) (total : Result (List Triple × List ℕ) Refusal) (so_far : with_front front (part_entries_at format (count - i) ranges last bytes) ≡ total) where
  module _ (more : i < count) where
    turns_left : count - i ≡ suc (count - (i + 1))
    turns_left = omega arith

    pub no_entry : (e : Refusal) → next_entry_at format ranges last bytes ≡ Err e → total ≡ Err e
    unfolding part_entries_at
    no_entry e h = let one : with_front front (part_entries_at format (count - i) ranges last bytes) ≡ Err e = rw (turns_left, h) refl in sym so_far ∙ one

    pub entries_end : (after : List ℕ) → next_entry_at format ranges last bytes ≡ Ok (None, after) → total ≡ Ok (front, after)
    unfolding part_entries_at
    entries_end after h = let one : with_front front (part_entries_at format (count - i) ranges last bytes) ≡ Ok (front, after) = rw (turns_left, h) (ap (λ (es : List Triple). Ok (es, after)) (append-nil front)) in sym so_far ∙ one

    pub entry_goes_on : (entry : Triple) (after : List ℕ) → next_entry_at format ranges last bytes ≡ Ok (Some entry, after)
        → with_front (front ++ entry ∷ []) (part_entries_at format (count - (i + 1)) ranges entry.key after) ≡ total
    unfolding part_entries_at
    entry_goes_on entry after h =
        let one : with_front front (part_entries_at format (count - i) ranges last bytes) ≡ with_front (front ++ entry ∷ []) (part_entries_at format (count - (i + 1)) ranges entry.key after) = rw (turns_left, h) (regroup front entry (part_entries_at format (count - (i + 1)) ranges entry.key after)) in sym one ∙ so_far

  pub entries_out : count ≤ i → total ≡ Err Short
  unfolding part_entries_at
  entries_out le =
      let k : count - i ≡ 0 = omega arith in
      let one : with_front front (part_entries_at format (count - i) ranges last bytes) ≡ Err Short = rw k refl in
      sym so_far ∙ one

-- ---- what was read

-- the steps by which a range was read, and what was tested
pub range_steps : (least : ℕ) (bytes : List ℕ) (x : Range × List ℕ) → range_at least bytes ≡ Ok x
    → (rest : List ℕ) × (number_at Short w32 bytes ≡ Ok (x.0.low, rest)) × (number_at Short w32 rest ≡ Ok (x.0.high, x.1)) × (least ≤ x.0.low) × (x.0.low ≤ x.0.high) × (x.0.high ≤ 65535)
unfolding range_at
range_steps least bytes x e =
    let a = bind_ok (number_at Short w32 bytes) (λ low. number_at Short w32 low.1 >>= λ high. where_true (nat_le least low.0 && nat_le low.0 high.0 && nat_le high.0 65535) BadRanges (record { low = low.0; high = high.0 }, high.1)) x e in
    let b = bind_ok (number_at Short w32 a.0.1) (λ high. where_true (nat_le least a.0.0 && nat_le a.0.0 high.0 && nat_le high.0 65535) BadRanges (record { low = a.0.0; high = high.0 }, high.1)) x a.2 in
    let made : Range × List ℕ = (record { low = a.0.0; high = b.0.0 }, b.0.1) in
    let g = where_ok (nat_le least a.0.0 && nat_le a.0.0 b.0.0 && nat_le b.0.0 65535) BadRanges made x b.2 in
    let lawful : (least ≤ a.0.0) × (a.0.0 ≤ b.0.0) × (b.0.0 ≤ 65535) = grind (arith, g.0, nat_tests) in
    subst (λ (y : Range × List ℕ). (rest : List ℕ) × (number_at Short w32 bytes ≡ Ok (y.0.low, rest)) × (number_at Short w32 rest ≡ Ok (y.0.high, y.1)) × (least ≤ y.0.low) × (y.0.low ≤ y.0.high) × (y.0.high ≤ 65535)) {x = made} g.1
    (a.0.1, a.1, b.1, lawful.0, lawful.1, lawful.2)

-- How a text goes out in pieces, and the bytes that are kept of it.
use Rattle.std.proofs.Common.{◌≤◌, ◌<◌, ◌+◌, ◌-◌, ◌*◌, ℕ, List, [], ◌∷◌, ◌++◌, length, Option, Some, None, Err, refl, sym, arith, inl}
use Rattle.std.proofs.lemmas.List.{append-nil, length-append}
use Rattle.pc_io.specs.Counted.{AppendsBeginning, AppendsPart}
use Rattle.pc_io.specs.Tallies.{inner_of}
use Rattle.pc_types.specs.declared.Refusal.TheVariants.{OutOfMemory}
use Rattle.pc_io.specs.declared.tally.Tally.{Tally}
use Rattle.pc_part.specs.declared.ranges.Range.{Range}
use Rattle.pc_part.specs.Parts.{RangesFrom}
use Rattle.pc_part.specs.Texts.{end_text}
use Rattle.pc_stream_join.specs.Writing.{Ends}

-- there are few ranges, since there are few points
pub few_ranges : (least : ℕ) (ranges : List Range) → RangesFrom least ranges → 2 * length ranges ≤ 65537 - least
few_ranges least [] h = omega arith
few_ranges least (r ∷ ranges) h = let rest = few_ranges (r.high + 2) ranges h.3 in let a : least ≤ r.low = h.0 in let b : r.low ≤ r.high = h.1 in let c : r.high ≤ 65535 = h.2 in omega arith

-- nothing went out
pub no_beginning : (known : Option (List ℕ)) (text : List ℕ) → AppendsBeginning known known text
no_beginning None text = tt
no_beginning (Some xs) text = (0, omega arith, sym (append-nil xs))

no_part : (known : Option (List ℕ)) (text : List ℕ) → 0 < length text → AppendsPart known known text
no_part None text some = tt
no_part (Some xs) text some = (0, some, sym (append-nil xs))

-- the end has bytes
pub some_end : (kept : List ℕ) (count : ℕ) → 0 < length (kept ++ end_text count)
some_end kept count = omega (arith, length-append kept (end_text count))

module _ {T : Type 0} (contents : T → Option (List ℕ)) where
  -- no room for the end
  pub no_room_to_end : (out : Tally T) (kept : List ℕ) (count : ℕ) → Ends contents out out kept count (Err OutOfMemory)
  no_room_to_end out kept count = (inl (refl, refl), no_part (contents (inner_of out)) (kept ++ end_text count) (some_end kept count))

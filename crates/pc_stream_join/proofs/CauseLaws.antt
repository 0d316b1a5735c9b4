-- Why the further entries of readers can't be joined: their keys always ascend.
use Rattle.std.proofs.Common.{◌≡◌, ℕ, zero, suc, Bool, true, false, cond, eqb, List, [], ◌∷◌, length, map, Option, Some, None, Result, Ok, Err, refl, subst, inl, inr}
use Rattle.std.specs.Prelude.{⊤}
use Rattle.std.specs.Option.{option_map}
use Rattle.std.specs.List.{AllByRecursion}
use Rattle.std.specs.Ordering.{is_lt}
use Rattle.std.specs.FinMap.{is_sorted}
use Rattle.std.specs.FinMap.Entries.{below_all}
use Rattle.std.specs.Int.{w16, w32}
use Rattle.std.proofs.lemmas.List.Elements.{All-contains, All-from_recursion}
use Rattle.pc_io.specs.Counted.{one_more}
use Rattle.pc_io.specs.Fields.{◌>>=◌, number_at}
use Rattle.pc_types.specs.declared.Refusal.{Refusal}
use Rattle.pc_types.specs.declared.Refusal.TheVariants.{BadLength, Short, Trailing}
use Rattle.pc_types.specs.declared.Triple.{Triple}
use Rattle.pc_io.specs.declared.formats.Format.{Format}
use Rattle.pc_io.proofs.FieldLaws.{bind_ok, ok_is}
use Rattle.pc_model.specs.Database.{KeysRise, key_cmp}
use Rattle.pc_model.specs.TripleLists.{map_entries}
use Rattle.pc_model.proofs.RisingLaws.{and_of, is_less, lesser_below}
use Rattle.pc_part.specs.declared.ranges.Range.{Range}
use Rattle.pc_part.specs.Reading.{part_entry_at, part_header_at, next_entry_at, next_key_at}
use Rattle.pc_merge.specs.Coming.{Coming, ended, refused}
use Rattle.pc_merge.specs.Inputs.{all_known, known_with}
use Rattle.pc_merge.specs.Merging.{IsCause}
use Rattle.pc_streams.specs.declared.reader.PartReader.{PartReader}
use Rattle.pc_streams.specs.declared.reader.PartStage.{PartStage}
use Rattle.pc_streams.specs.declared.reader.PartStage.TheVariants.{Unread, Among, Refused}
use Rattle.pc_streams.specs.Coming.{coming_after_key, coming_behind, coming_from, coming_of_bytes, part_coming, part_end_at}
use Rattle.pc_streams.specs.Readers.{coming_of, stage_coming}
use Rattle.pc_streams.specs.Sources.{text_left}
use Rattle.pc_streams.proofs.LawfulNext.{Next, key_rises, triple, with_entry, with_key}
use Rattle.pc_stream_join.specs.Joining.{IsJoinCause}

-- ---- an entry that is read comes after the last key

abbrev Follows : List ℕ → Option Triple → Type 0
Follows last None = ⊤
Follows last (Some entry) = is_lt (key_cmp last entry.key) ≡ true

behind_length : (format : Format) (ranges : List Range) (last : List ℕ) (t : Bool) (count : ℕ) (rest : List ℕ) (next : Next) → cond t (Ok (None, rest)) (next_key_at format last count rest >>= with_key ranges) ≡ Ok next → Follows last next.0
behind_length format ranges last true count rest next is = subst (λ (x : Next). Follows last x.0) (ok_is (None, rest) next is) tt
behind_length format ranges last false count rest next is =
    let k = bind_ok (next_key_at format last count rest) (with_key ranges) next is in
    let e = bind_ok (part_entry_at ranges k.0.1) (with_entry k.0.0) next k.2 in
    subst (λ (x : Next). Follows last x.0) (ok_is (Some (triple k.0.0 e.0.0), e.0.1) next e.2) (key_rises format last count rest k.0 k.1)

abbrev with_count : Format → List Range → List ℕ → ℕ × List ℕ → Result Next Refusal
with_count format ranges last count = cond (eqb count.0 0) (Ok (None, count.1)) (next_key_at format last count.0 count.1 >>= with_key ranges)

next_follows : (format : Format) (ranges : List Range) (last bytes : List ℕ) (next : Option Triple) (rest : List ℕ) → next_entry_at format ranges last bytes ≡ Ok (next, rest) → Follows last next
unfolding next_entry_at
next_follows format ranges last bytes next rest is =
    let n = bind_ok (number_at Short w16 bytes) (with_count format ranges last) (next, rest) is in
    behind_length format ranges last (eqb n.0.0 0) n.0.0 n.0.1 (next, rest) n.2

-- ---- so all further entries ascend

abbrev RisesFrom : {X : Type 0} → List ℕ → List (List ℕ × X) → Type 0
RisesFrom last [] = ⊤
RisesFrom last (e ∷ es) = (is_lt (key_cmp last e.0) ≡ true) × RisesFrom e.0 es

rises_below : {X : Type 0} (last : List ℕ) (es : List (List ℕ × X)) → RisesFrom last es → below_all key_cmp last es ≡ true
rises_below last [] h = refl
rises_below last (e ∷ es) h = and_of (is_lt (key_cmp last e.0)) (below_all key_cmp last es) h.0 (lesser_below last e.0 es (is_less (key_cmp last e.0) h.0) (rises_below e.0 es h.1))

keys_rise : {X : Type 0} (last : List ℕ) (es : List (List ℕ × X)) → RisesFrom last es → is_sorted key_cmp es ≡ true
keys_rise last [] h = refl
keys_rise last (e ∷ es) h = and_of (below_all key_cmp e.0 es) (is_sorted key_cmp es) (rises_below e.0 es h.1) (keys_rise e.0 es h.1)

end_rises : (count : ℕ) (last : List ℕ) (r : Result (ℕ × List ℕ) Refusal) → RisesFrom last (map_entries (part_end_at count r).entries)
end_rises count last (Err why) = tt
end_rises count last (Ok total) = by (eqb total.0 count) (eqb (length total.1) 0)
  where
    by : (t u : Bool) → RisesFrom last (map_entries (cond t (cond u ended (refused Trailing)) (refused BadLength)).entries)
    by true true = tt
    by true false = tt
    by false u = tt

from_rises : (others : List ℕ → List ℕ → Coming) (count : ℕ) (last : List ℕ) (r : Result Next Refusal) → ((key rest : List ℕ) → RisesFrom key (map_entries (others key rest).entries))
    → ((next : Option Triple) (rest : List ℕ) → r ≡ Ok (next, rest) → Follows last next) → RisesFrom last (map_entries (coming_from others count r).entries)
from_rises others count last (Err why) behind follows = tt
from_rises others count last (Ok (None, rest)) behind follows = end_rises count last (number_at Short w32 rest)
from_rises others count last (Ok (Some entry, rest)) behind follows = (follows (Some entry) rest refl, behind entry.key rest)

coming_rises : (format : Format) (turns : ℕ) (ranges : List Range) (count : ℕ) (last bytes : List ℕ) → RisesFrom last (map_entries (coming_after_key format turns ranges count last bytes).entries)
unfolding coming_after_key
coming_rises format zero ranges count last bytes = tt
coming_rises format (suc turns) ranges count last bytes = from_rises (coming_after_key format turns ranges (one_more count)) count last (next_entry_at format ranges last bytes) (λ key rest. coming_rises format turns ranges (one_more count) key rest) (next_follows format ranges last bytes)

abbrev Rises : Coming → Type 0
Rises coming = KeysRise (map_entries coming.entries)

bytes_rise : (format : Format) (ranges : List Range) (count : ℕ) (last bytes : List ℕ) → Rises (coming_of_bytes format ranges count last bytes)
bytes_rise format ranges count last bytes = keys_rise last (map_entries (coming_of_bytes format ranges count last bytes).entries) (coming_rises format (length bytes) ranges count last bytes)

part_rises : (r : Result ((Format × (ℕ × List Range)) × List ℕ) Refusal) → Rises (coming_behind r)
part_rises (Err why) = refl
part_rises (Ok (header, rest)) = bytes_rise header.0 header.1.1 0 [] rest

some_is : (c d : Coming) → Some c ≡ Some d → Rises c → Rises d
some_is c d is rises = let same : c ≡ d = cc in subst Rises same rises

stage_rises : (stage : PartStage) (known : Option (List ℕ)) (coming : Coming) → stage_coming stage known ≡ Some coming → Rises coming
stage_rises Unread None coming is = absurd cc
stage_rises Unread (Some bytes) coming is = some_is (part_coming bytes) coming is (part_rises (part_header_at bytes))
stage_rises (Refused why) known coming is = some_is (refused why) coming is refl
stage_rises (Among place) known coming is = by place.ended known is
  where
    by : (t : Bool) (known : Option (List ℕ)) → cond t (Some ended) (option_map (coming_of_bytes place.format place.ranges place.count place.last) known) ≡ Some coming → Rises coming
    by true known is = some_is ended coming is refl
    by false None is = absurd cc
    by false (Some bytes) is = some_is (coming_of_bytes place.format place.ranges place.count place.last bytes) coming is (bytes_rise place.format place.ranges place.count place.last bytes)

module _ {R : Type 0} (remaining : R → Option (List ℕ)) where
  all_rise : (inputs : List (PartReader R)) (was : List Coming) → all_known (map (coming_of remaining) inputs) ≡ Some was → AllByRecursion Rises was
  all_rise [] was is = let same : [] ≡ was = cc in subst (AllByRecursion Rises) same tt
  all_rise (input ∷ inputs) was is =
      by (coming_of remaining input) refl (all_known (map (coming_of remaining) inputs)) (all_rise inputs) is
    where
      by : (first : Option Coming) → coming_of remaining input ≡ first → (others : Option (List Coming)) → ((was : List Coming) → others ≡ Some was → AllByRecursion Rises was) → known_with first others ≡ Some was → AllByRecursion Rises was
      by None of others rest is = absurd cc
      by (Some first) of None rest is = absurd cc
      by (Some first) of (Some others) rest is =
          let same : (first ∷ others) ≡ was = cc in
          subst (AllByRecursion Rises) same (stage_rises input.stage (text_left remaining input.source) first of, rest others refl)

  -- why they can't be joined
  pub join_cause : (inputs : List (PartReader R)) (was : List Coming) (why : Refusal) → all_known (map (coming_of remaining) inputs) ≡ Some was → IsCause was why → IsJoinCause was why
  join_cause inputs was why known (inl memory) = inl memory
  join_cause inputs was why known (inr (inl device)) = inr (inl device)
  join_cause inputs was why known (inr (inr (inl fault))) = inr (inr (inl fault))
  join_cause inputs was why known (inr (inr (inr (inl conflict)))) = inr (inr (inr (inl conflict)))
  join_cause inputs was why known (inr (inr (inr (inr order)))) = absurd (order.1.2 (All-contains Rises was order.1.0 (All-from_recursion Rises was (all_rise inputs was known)) order.1.1))

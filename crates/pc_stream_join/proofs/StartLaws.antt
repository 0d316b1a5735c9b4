-- How a join begins, and the facts at its end.
use Rattle.std.proofs.Common.{◌≡◌, ◌<◌, ◌^◌, ℕ, List, [], ◌∷◌, append-nil, map, Option, Some, None, Result, Ok, Err, refl, sym, ap, ◌∙◌, inl, arith}
use Rattle.std.specs.Prelude.{IfErr, IfOk, IsTrue, OnErr}
use Rattle.std.proofs.lemmas.List.Elements.{All-nil}
use Rattle.pc_io.specs.Tallies.{failures_of, inner_of}
use Rattle.pc_types.specs.declared.Refusal.{Refusal}
use Rattle.pc_types.specs.declared.Triple.{Triple}
use Rattle.pc_io.specs.declared.tally.Tally.{Tally}
use Rattle.pc_io.proofs.KnownBytesLaws.{appends_nothing}
use Rattle.pc_model.specs.Sets as set
use Rattle.pc_part.specs.declared.ranges.Range.{Range}
use Rattle.pc_part.specs.Lawful.{HasLimits}
use Rattle.pc_part.specs.Parts.{AreRanges, points_of}
use Rattle.pc_merge.specs.Coming.{Coming, Standing}
use Rattle.pc_merge.specs.Inputs.{all_known, known_with, left_in}
use Rattle.pc_merge.specs.Merging.{AreAbove, Merging}
use Rattle.pc_merge.specs.Standings.{AllStand, AreWithin}
use Rattle.pc_streams.specs.declared.reader.PartReader.{PartReader}
use Rattle.pc_streams.specs.Readers.{StaysKnown, coming_of, reads_within, standing_of}
use Rattle.pc_stream_join.specs.Headers.{AreHeaded, StayKnown, WereHeaded}
use Rattle.pc_stream_join.specs.Joining.{IsJoinRefusal, IsJoinWritten, IsUnjoinedFor, JoinStands, LeavesShort}
use Rattle.pc_stream_join.specs.Steps.{Begun, IsJoining, JoinEnds}
use Rattle.pc_stream_join.specs.Writing.{Writing, part_header_text}

-- if the inputs were refused, the output has no further failure
pub inputs_refused : (X : Type 0) (was now : List Standing) (failures : ℕ) (why : Refusal) → AllStand {X = X} was now (Err why) → JoinStands {X = ℕ} was now failures failures (Err why)
inputs_refused X was now failures why all = (λ device. inl (all.0 device), λ other. (all, refl))

module _ {R W : Type 0} (remaining : R → Option (List ℕ)) (contents : W → Option (List ℕ)) where
  -- nothing was given yet
  pub starts : (run : ℕ) (ranges : List Range) (inputs now : List (PartReader R)) (out : Tally W) (merge : Merging) (writing : Writing) → run < 2 ^ 64 → AreRanges ranges → writing ≡ record { kept = part_header_text run ranges; count = 0 }
      → map standing_of now ≡ map standing_of inputs → AreWithin reads_within (set.contains (points_of ranges)) now merge.firsts → merge.refused ≡ None
      → ((was : List Coming) → all_known (map (coming_of remaining) inputs) ≡ Some was → left_in (map (coming_of remaining) now) merge ≡ Some was)
      → IsJoining remaining contents (record { run = run; ranges = ranges; inputs = inputs; out = out }) now merge writing out
  starts run ranges inputs now out merge writing fits apart is stand within unrefused known = record {
    given = [];
    so_far = record {
      run_fits = fits;
      apart = apart;
      rise = refl;
      covered = All-nil (λ (t : Triple). IsTrue (set.contains (points_of ranges) t.point));
      fit = All-nil HasLimits;
      many = ap (λ (w : Writing). w.count) is;
      few = omega arith;
      gone = [];
      sent = appends_nothing (contents (inner_of out));
      text = ap (λ (w : Writing). w.kept) is ∙ sym (append-nil (part_header_text run ranges));
      failures = refl;
    };
    above = All-nil (λ (e : Triple). AreAbove e.key merge.firsts);
    stand = stand;
    within = within;
    unrefused = unrefused;
    known = λ was is. (was, known was is, refl);
  }

  module _ (begun : Begun R W) (inputs : List (PartReader R)) (out : Tally W) where
    pub ends_written : (r : Result ℕ Refusal) → JoinEnds remaining contents begun inputs out r → IfOk r (IsJoinWritten remaining contents begun.run begun.ranges begun.inputs begun.out out)
    ends_written (Ok count) ends = ends.0
    ends_written (Err why) ends = tt

    pub ends_cause : (r : Result ℕ Refusal) → JoinEnds remaining contents begun inputs out r → IfErr r (IsUnjoinedFor remaining begun.inputs)
    ends_cause (Ok count) ends = tt
    ends_cause (Err why) ends = ends.cause

    pub ends_refusal : (r : Result ℕ Refusal) → JoinEnds remaining contents begun inputs out r → IfErr r IsJoinRefusal
    ends_refusal (Ok count) ends = tt
    ends_refusal (Err why) ends = ends.refusal

    pub ends_short : (r : Result ℕ Refusal) → JoinEnds remaining contents begun inputs out r → OnErr r (LeavesShort (contents (inner_of begun.out)) (contents (inner_of out)))
    ends_short (Ok count) ends = tt
    ends_short (Err why) ends = ends.short

    pub ends_stand : (r : Result ℕ Refusal) → JoinEnds remaining contents begun inputs out r → JoinStands (map standing_of begun.inputs) (map standing_of inputs) (failures_of begun.out) (failures_of out) r
    ends_stand (Ok count) ends = ends.1
    ends_stand (Err why) ends = ends.stand

module _ {R : Type 0} (remaining : R → Option (List ℕ)) where
  pub were_headed : (inputs read : List (PartReader R)) (run : ℕ) (ranges : List Range) → StayKnown remaining inputs read → AreHeaded remaining run ranges read → WereHeaded remaining inputs
  were_headed inputs read run ranges stays headed = record { run = run; ranges = ranges; read = read; stays = stays; headed = headed }

  one_known : (was now : Option Coming) (coming : Coming) → was ≡ Some coming → StaysKnown was now → now ≡ Some coming
  one_known None now coming is stays = absurd cc
  one_known (Some first) now coming is stays = stays ∙ is

  -- known facts of all stay
  pub known_stays : (inputs read : List (PartReader R)) (was : List Coming) → StayKnown remaining inputs read → all_known (map (coming_of remaining) inputs) ≡ Some was → all_known (map (coming_of remaining) read) ≡ Some was
  known_stays [] [] was stays is = is
  known_stays [] (x ∷ read) was stays is = absurd stays
  known_stays (input ∷ inputs) [] was stays is = absurd stays
  known_stays (input ∷ inputs) (input_read ∷ read) was stays is =
      by (coming_of remaining input) (coming_of remaining input_read) (all_known (map (coming_of remaining) inputs)) (all_known (map (coming_of remaining) read)) stays.1 (λ others known. known_stays inputs read others stays.2 known) is
    where
      by : (first now : Option Coming) (others others_now : Option (List Coming)) → StaysKnown first now → ((was : List Coming) → others ≡ Some was → others_now ≡ Some was) → known_with first others ≡ Some was → known_with now others_now ≡ Some was
      by None now others others_now stays rest is = absurd cc
      by (Some c) now None others_now stays rest is = absurd cc
      by (Some c) now (Some cs) others_now stays rest is = let same = rest cs refl in rw (stays, same) is

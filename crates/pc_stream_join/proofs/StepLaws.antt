-- The steps of a join.
use Rattle.std.proofs.Common.{◌≡◌, ◌⊎◌, ◌≤◌, ◌<◌, ◌+◌, ℕ, Bool, true, List, [], ◌∷◌, ◌++◌, append_assoc, append-nil, length, map, take, Option, Some, None, Result, Ok, Err, refl, sym, ap, subst, ◌∙◌, inl, inr, arith}
use Rattle.std.specs.Prelude.{IsTrue, nat_le}
use Rattle.std.specs.Io.KnownBytes.{Appends}
use Rattle.std.specs.List.{All, AllByRecursion, flat_map}
use Rattle.std.specs.FinMap.{is_sorted}
use Rattle.std.specs.FinMap.Entries.{below_all}
use Rattle.std.specs.Ordering.{is_lt}
use Rattle.std.specs.declared.cmp.Ordering.TheVariants.{Less}
use Rattle.std.proofs.lemmas.List.{length-append}
use Rattle.std.proofs.lemmas.Bool.Decides.{nat_tests}
use Rattle.std.proofs.lemmas.List.Elements.{All-push, All-weaker, recursion_from_All}
use Rattle.pc_io.specs.Counted.{AppendsBeginning, AppendsPart, HasRisen}
use Rattle.pc_io.specs.Tallies.{failures_of, inner_of}
use Rattle.pc_types.specs.declared.Refusal.{Refusal}
use Rattle.pc_types.specs.declared.Refusal.TheVariants.{Device, Full, OutOfMemory}
use Rattle.pc_types.specs.declared.Triple.{Triple}
use Rattle.pc_io.specs.declared.tally.Tally.{Tally}
use Rattle.pc_io.proofs.KnownBytesLaws.{appends_then, begins_after, part_after}
use Rattle.pc_model.specs.Database.{KeysRise, key_cmp, key_order}
use Rattle.pc_model.specs.Sets as set
use Rattle.pc_model.specs.TripleLists.{map_entries}
use Rattle.pc_model.proofs.RisingLaws.{and_of, both}
use Rattle.pc_part.specs.Lawful.{HasLimits}
use Rattle.pc_part.specs.Parts.{AreCovered, points_of}
use Rattle.pc_part.specs.Texts.{end_text, triple_text}
use Rattle.pc_merge.specs.Coming.{Coming, Standing}
use Rattle.pc_merge.specs.Inputs.{all_known, left_in}
use Rattle.pc_merge.specs.Merging.{AreAbove, MergesNext, IsBelow, IsMergeRefusal, KeysGoOn, Merging, MergeRefuses, all_behind}
use Rattle.pc_merge.specs.Standings.{AllGiveWithin, AllStand}
use Rattle.pc_merge.specs.Tournaments.{first_entry_at}
use Rattle.pc_merge.proofs.GivenLaws.{causes_stand, ends_are_merges, given_grows}
use Rattle.pc_streams.specs.declared.reader.PartReader.{PartReader}
use Rattle.pc_streams.specs.Readers.{coming_of, reads_within, standing_of}
use Rattle.pc_streams.specs.Refusals.{IsReadRefusal, IsTextFault}
use Rattle.pc_stream_join.specs.Joining.{IsJoinRefusal, JoinStands, LeavesShort}
use Rattle.pc_stream_join.specs.Steps.{Begun, HasGivenLeft, IsAllGiven, IsJoining, IsSoFar, JoinEnds, JoinFails}
use Rattle.pc_stream_join.specs.Writing.{Ends, FailsFor, WritesBuffered, Writing, part_header_text}
use Rattle.pc_stream_join.proofs.CauseLaws.{join_cause}
use Rattle.pc_stream_join.proofs.FileLaws.{begins_short, ends_short, is_file, text_is}
use Rattle.pc_stream_join.proofs.StandingLaws.{none_failed}

-- ---- lists

take_front : (xs ys : List ℕ) → take (length xs) (xs ++ ys) ≡ xs
take_front [] ys = refl
take_front (x ∷ xs) ys = ap (λ (rest : List ℕ). x ∷ rest) (take_front xs ys)

-- the text that went out is a beginning of it and of the bytes that are kept
front : (was now : Option (List ℕ)) (gone kept text : List ℕ) → Appends was now gone → gone ++ kept ≡ text → AppendsBeginning was now text
front None now gone kept text sent is = tt
front (Some was) None gone kept text sent is = absurd sent
front (Some was) (Some now) gone kept text sent is = (
  length gone,
  (let parts = length-append gone kept in let whole : length (gone ++ kept) ≡ length text = ap length is in omega arith),
  sent ∙ ap (λ (t : List ℕ). was ++ t) (sym (ap (take (length gone)) (sym is) ∙ take_front gone kept)),
)

one_more_text : (given : List Triple) (entry : Triple) → flat_map triple_text (given ++ entry ∷ []) ≡ flat_map triple_text given ++ triple_text entry
one_more_text [] entry = append-nil (triple_text entry)
one_more_text (first ∷ given) entry = ap (λ (t : List ℕ). triple_text first ++ t) (one_more_text given entry) ∙ sym (append_assoc (triple_text first) (flat_map triple_text given) (triple_text entry))

below_push : (key : List ℕ) (given : List Triple) (entry : Triple) → below_all key_cmp key (map_entries given) ≡ true → key_cmp key entry.key ≡ Less → below_all key_cmp key (map_entries (given ++ entry ∷ [])) ≡ true
below_push key [] entry below less = and_of (is_lt (key_cmp key entry.key)) true (ap is_lt less) refl
below_push key (first ∷ given) entry below less =
    let parts = both (is_lt (key_cmp key first.key)) (below_all key_cmp key (map_entries given)) below in
    and_of (is_lt (key_cmp key first.key)) (below_all key_cmp key (map_entries (given ++ entry ∷ []))) parts.0 (below_push key given entry parts.1 less)

-- an entry above all others comes after them
rise_push : (given : List Triple) (entry : Triple) → KeysRise (map_entries given) → AllByRecursion (λ e. key_cmp e.key entry.key ≡ Less) given → KeysRise (map_entries (given ++ entry ∷ []))
rise_push [] entry rise less = refl
rise_push (first ∷ given) entry rise less =
    let parts = both (below_all key_cmp first.key (map_entries given)) (is_sorted key_cmp (map_entries given)) rise in
    and_of (below_all key_cmp first.key (map_entries (given ++ entry ∷ []))) (is_sorted key_cmp (map_entries (given ++ entry ∷ []))) (below_push first.key given entry parts.0 less.0) (rise_push given entry parts.1 less.1)

below_trans : (key other : List ℕ) (first : Option Triple) → key_cmp key other ≡ Less → IsBelow other first → IsBelow key first
below_trans key other None less below = tt
below_trans key other (Some first) less below = key_order.total.trans key other first.key less below

-- ---- possible refusals

merge_refusal : (why : Refusal) → IsMergeRefusal IsReadRefusal why → IsJoinRefusal why
merge_refusal why (inl conflict) = inl conflict
merge_refusal why (inr (inl order)) = inr (inr (inr (inr (subst IsTextFault (sym order) tt))))
merge_refusal why (inr (inr read)) = inr (inr read)

write_refusal : {T : Type 0} (old new : Tally T) (why : Refusal) → FailsFor old new why → IsJoinRefusal why
write_refusal old new why (inl memory) = inr (inr (inl memory.0))
write_refusal old new why (inr device) = inr (inr (inr (inl device.0)))

module _ {R W : Type 0} (remaining : R → Option (List ℕ)) (contents : W → Option (List ℕ)) (begun : Begun R W) where
  -- ---- text

  so_far_short : (given : List Triple) (writing : Writing) (out : Tally W) → IsSoFar contents begun given writing out → LeavesShort (contents (inner_of begun.out)) (contents (inner_of out))
  so_far_short given writing out so = begins_short begun.run begun.ranges given so.run_fits so.apart so.rise so.covered so.fit so.few (contents (inner_of begun.out)) (contents (inner_of out))
      (front (contents (inner_of begun.out)) (contents (inner_of out)) so.gone writing.kept (part_header_text begun.run begun.ranges ++ flat_map triple_text given) so.sent so.text)

  -- ---- the counts of all

  refused_stands : (X : Type 0) (inputs now : List (PartReader R)) (out : Tally W) (why : Refusal) → map standing_of inputs ≡ map standing_of begun.inputs → failures_of out ≡ failures_of begun.out
      → AllStand {X = X} (map standing_of inputs) (map standing_of now) (Err why) → JoinStands {X = ℕ} (map standing_of begun.inputs) (map standing_of now) (failures_of begun.out) (failures_of out) (Err why)
  refused_stands X inputs now out why stand failures all =
      let moved = subst (λ (ss : List Standing). AllStand {X = X} ss (map standing_of now) (Err why)) stand all in
      (λ device. inl (moved.0 device), λ other. (moved, failures))

  still_refused : (now : List (PartReader R)) (out : Tally W) (why : Refusal) → (why ≡ Device → ⊥) → map standing_of now ≡ map standing_of begun.inputs → failures_of out ≡ failures_of begun.out
      → JoinStands {X = ℕ} (map standing_of begun.inputs) (map standing_of now) (failures_of begun.out) (failures_of out) (Err why)
  still_refused now out why other stand failures = (λ device. absurd (other device), λ _. (none_failed ℕ (map standing_of begun.inputs) (map standing_of now) why other stand, failures))

  write_stands : (now : List (PartReader R)) (out out_now : Tally W) (why : Refusal) → FailsFor out out_now why → map standing_of now ≡ map standing_of begun.inputs → failures_of out ≡ failures_of begun.out
      → JoinStands {X = ℕ} (map standing_of begun.inputs) (map standing_of now) (failures_of begun.out) (failures_of out_now) (Err why)
  write_stands now out out_now why (inl memory) stand failures = still_refused now out_now why (λ device. let bad : OutOfMemory ≡ Device = sym memory.0 ∙ device in cc) stand (memory.1 ∙ failures)
  write_stands now out out_now why (inr device) stand failures = (λ _. inr (subst (λ (n : ℕ). HasRisen n (failures_of out_now)) failures device.1), λ other. absurd (other device.0))

  -- ---- refusals

  module _ (inputs : List (PartReader R)) (merge : Merging) (writing : Writing) (out : Tally W) (joining : IsJoining remaining contents begun inputs merge writing out) (now : List (PartReader R)) (merge_now : Merging) where
    abbrev Left : List (PartReader R) → Merging → Option (List Coming)
    Left readers merging = left_in (map (coming_of remaining) readers) merging

    -- the merge was refused
    pub next_fails : (why : Refusal) → MergesNext (Left inputs merge) (Left now merge_now) (Err why) → AllStand {X = Option Triple} (map standing_of inputs) (map standing_of now) (Err why) → IsMergeRefusal IsReadRefusal why → JoinFails remaining contents begun now out why
    next_fails why goes stand refusal = record {
      cause = λ was known.
          let k = joining.known was known in
          join_cause remaining begun.inputs was why known (causes_stand was joining.given k.0 why k.2 (subst (λ (l : Option (List Coming)). MergesNext l (Left now merge_now) (Err why)) k.1 goes));
      refusal = merge_refusal why refusal;
      short = so_far_short joining.given writing out joining.so_far;
      stand = refused_stands (Option Triple) inputs now out why joining.stand joining.so_far.failures stand;
    }

    -- the merge has ended
    pub all_given : MergesNext (Left inputs merge) (Left now merge_now) (Ok None) → map standing_of now ≡ map standing_of inputs → IsAllGiven remaining contents begun now writing out
    all_given goes stand = record {
      given = joining.given;
      so_far = joining.so_far;
      stand = stand ∙ joining.stand;
      merged = λ was known.
          let k = joining.known was known in
          let g = subst (λ (l : Option (List Coming)). MergesNext l (Left now merge_now) (Ok None)) k.1 goes in
          ends_are_merges was joining.given k.0 k.2 g.0;
    }

    module _ (entry : Triple) (goes : MergesNext (Left inputs merge) (Left now merge_now) (Ok (Some entry))) (stand : map standing_of now ≡ map standing_of inputs) where
      abbrev more : List Triple
      more = joining.given ++ entry ∷ []

      given_more : (was : List Coming) → all_known (map (coming_of remaining) begun.inputs) ≡ Some was → HasGivenLeft was more (Left now merge_now)
      given_more was known =
          let k = joining.known was known in
          let g = subst (λ (l : Option (List Coming)). MergesNext l (Left now merge_now) (Ok (Some entry))) k.1 goes in
          (all_behind entry.key k.0, g.1, given_grows was joining.given k.0 entry k.2 g.0)

      many_more : length more ≡ length joining.given + 1
      many_more = length-append joining.given (entry ∷ [])

      -- there are too many
      pub too_many : nat_le 4294967295 writing.count ≡ true → JoinFails remaining contents begun now out Full
      too_many full =
          let le : 4294967295 ≤ writing.count = le_of full in
          record {
            cause = λ was known. let g = given_more was known in inr (inr (inr (inr (refl, (more, g.0, g.2, (let many = joining.so_far.many in let one = many_more in omega arith))))));
            refusal = inr (inl refl);
            short = so_far_short joining.given writing out joining.so_far;
            stand = still_refused now out Full (λ bad. cc) (stand ∙ joining.stand) joining.so_far.failures;
          }
        where
          le_of : nat_le 4294967295 writing.count ≡ true → 4294967295 ≤ writing.count
          le_of full = grind (arith, nat_tests)

      module _ (rises : KeysGoOn merge.firsts merge_now.firsts (Ok (Some entry))) (within : AllGiveWithin reads_within inputs merge.firsts now merge_now.firsts (Ok (Some entry))) (refuses : MergeRefuses {X = Option Triple} merge.refused merge_now.refused (Ok (Some entry))) (fit : HasLimits entry) (room : writing.count < 4294967295) where
        abbrev points : ℕ → Bool
        points = set.contains (points_of begun.ranges)

        less : All (λ e. key_cmp e.key entry.key ≡ Less) joining.given
        less = All-weaker (λ e. AreAbove e.key merge.firsts) (λ e. key_cmp e.key entry.key ≡ Less) (λ e above. rises.0 e.key above) joining.given joining.above

        rise_more : KeysRise (map_entries more)
        rise_more = rise_push joining.given entry joining.so_far.rise (recursion_from_All (λ e. key_cmp e.key entry.key ≡ Less) joining.given less)

        covered_more : AreCovered (points_of begun.ranges) more
        covered_more = All-push (λ triple. IsTrue (set.contains (points_of begun.ranges) triple.point)) joining.given entry joining.so_far.covered (within points joining.within).0

        fit_more : All HasLimits more
        fit_more = All-push HasLimits joining.given entry joining.so_far.fit fit

        few_more : length more ≤ 4294967295
        few_more = let many = joining.so_far.many in let one = many_more in omega arith

        text_more : (gone kept : List ℕ) → gone ++ kept ≡ part_header_text begun.run begun.ranges ++ flat_map triple_text joining.given → gone ++ (kept ++ triple_text entry) ≡ part_header_text begun.run begun.ranges ++ flat_map triple_text more
        text_more gone kept is = sym (append_assoc gone kept (triple_text entry)) ∙ ap (λ (t : List ℕ). t ++ triple_text entry) is
            ∙ append_assoc (part_header_text begun.run begun.ranges) (flat_map triple_text joining.given) (triple_text entry)
            ∙ ap (λ (t : List ℕ). part_header_text begun.run begun.ranges ++ t) (sym (one_more_text joining.given entry))

        -- the entry wasn't written
        pub entry_fails : (out_now : Tally W) (kept_now : List ℕ) (why : Refusal) → WritesBuffered contents out out_now writing.kept kept_now (triple_text entry) (Err why) → JoinFails remaining contents begun now out_now why
        entry_fails out_now kept_now why fails = record {
          cause = λ was known. why_failed fails.0;
          refusal = write_refusal out out_now why fails.0;
          short = begins_short begun.run begun.ranges more joining.so_far.run_fits joining.so_far.apart rise_more covered_more fit_more few_more (contents (inner_of begun.out)) (contents (inner_of out_now))
              (subst (AppendsBeginning (contents (inner_of begun.out)) (contents (inner_of out_now))) (text_more joining.so_far.gone writing.kept joining.so_far.text)
              (begins_after (contents (inner_of begun.out)) (contents (inner_of out)) (contents (inner_of out_now)) joining.so_far.gone (writing.kept ++ triple_text entry) joining.so_far.sent fails.1));
          stand = write_stands now out out_now why fails.0 (stand ∙ joining.stand) joining.so_far.failures;
        }
          where
            why_failed : {A : Type 0} → FailsFor out out_now why → (why ≡ OutOfMemory) ⊎ (why ≡ Device) ⊎ A
            why_failed (inl memory) = inl memory.0
            why_failed (inr device) = inr (inl device.0)

        -- the entry was written
        pub entry_written : (writing_now : Writing) (out_now : Tally W) → WritesBuffered contents out out_now writing.kept writing_now.kept (triple_text entry) (Ok tt) → writing_now.count ≡ writing.count + 1 → IsJoining remaining contents begun now merge_now writing_now out_now
        entry_written writing_now out_now goes_out counted = record {
          given = more;
          so_far = record {
            run_fits = joining.so_far.run_fits;
            apart = joining.so_far.apart;
            rise = rise_more;
            covered = covered_more;
            fit = fit_more;
            many = counted ∙ ap (λ n. n + 1) joining.so_far.many ∙ sym many_more;
            few = few_more;
            gone = joining.so_far.gone ++ goes_out.0;
            sent = appends_then (contents (inner_of begun.out)) (contents (inner_of out)) (contents (inner_of out_now)) joining.so_far.gone goes_out.0 joining.so_far.sent goes_out.1;
            text = append_assoc joining.so_far.gone goes_out.0 writing_now.kept ∙ ap (λ (t : List ℕ). joining.so_far.gone ++ t) goes_out.2 ∙ text_more joining.so_far.gone writing.kept joining.so_far.text;
            failures = goes_out.3 ∙ joining.so_far.failures;
          };
          above = All-push (λ e. AreAbove e.key merge_now.firsts) joining.given entry
              (All-weaker (λ e. key_cmp e.key entry.key ≡ Less) (λ e. AreAbove e.key merge_now.firsts) (λ e lt place. below_trans e.key entry.key (first_entry_at merge_now.firsts place) lt (rises.1 place)) joining.given less) rises.1;
          stand = stand ∙ joining.stand;
          within = (within points joining.within).1;
          unrefused = subst (λ (r : Option Refusal). MergeRefuses {X = Option Triple} r merge_now.refused (Ok (Some entry))) joining.unrefused refuses;
          known = given_more;
        }

  -- ---- the end

  pub finished : (inputs : List (PartReader R)) (writing : Writing) (out out_now : Tally W) (r : Result ℕ Refusal) → IsAllGiven remaining contents begun inputs writing out → Ends contents out out_now writing.kept writing.count r → JoinEnds remaining contents begun inputs out_now r
  finished inputs writing out out_now (Ok total) all ends =
      let so = all.so_far in
      let whole : so.gone ++ (writing.kept ++ end_text writing.count) ≡ (part_header_text begun.run begun.ranges ++ flat_map triple_text all.given) ++ end_text (length all.given) =
      sym (append_assoc so.gone writing.kept (end_text writing.count)) ∙ ap (λ (t : List ℕ). t ++ end_text writing.count) so.text ∙ ap (λ n. (part_header_text begun.run begun.ranges ++ flat_map triple_text all.given) ++ end_text n) so.many in (
        record {
          given = all.given;
          rise = so.rise;
          lawful = is_file begun.run begun.ranges all.given so.run_fits so.apart so.rise so.covered so.fit so.few;
          text = subst (Appends (contents (inner_of begun.out)) (contents (inner_of out_now))) (whole ∙ text_is begun.run begun.ranges all.given so.run_fits so.apart so.rise so.covered so.fit so.few)
              (appends_then (contents (inner_of begun.out)) (contents (inner_of out)) (contents (inner_of out_now)) so.gone (writing.kept ++ end_text writing.count) so.sent ends.1);
          many = ends.0 ∙ so.many;
          merge = all.merged;
        },
        (all.stand, ends.2 ∙ so.failures),
      )
  finished inputs writing out out_now (Err why) all ends =
      let so = all.so_far in
      let whole : so.gone ++ (writing.kept ++ end_text writing.count) ≡ (part_header_text begun.run begun.ranges ++ flat_map triple_text all.given) ++ end_text (length all.given) =
      sym (append_assoc so.gone writing.kept (end_text writing.count)) ∙ ap (λ (t : List ℕ). t ++ end_text writing.count) so.text ∙ ap (λ n. (part_header_text begun.run begun.ranges ++ flat_map triple_text all.given) ++ end_text n) so.many in
      record {
        cause = λ was known. why_failed ends.0;
        refusal = write_refusal out out_now why ends.0;
        short = ends_short begun.run begun.ranges all.given so.run_fits so.apart so.rise so.covered so.fit so.few (contents (inner_of begun.out)) (contents (inner_of out_now))
            (subst (AppendsPart (contents (inner_of begun.out)) (contents (inner_of out_now))) whole
            (part_after (contents (inner_of begun.out)) (contents (inner_of out)) (contents (inner_of out_now)) so.gone (writing.kept ++ end_text writing.count) so.sent ends.1));
        stand = write_stands inputs out out_now why ends.0 all.stand so.failures;
      }
    where
      why_failed : {A : Type 0} → FailsFor out out_now why → (why ≡ OutOfMemory) ⊎ (why ≡ Device) ⊎ A
      why_failed (inl memory) = inl memory.0
      why_failed (inr device) = inr (inl device.0)

-- ---- the answers of the merge

pub none_of : (next : Option Triple) → ((entry : Triple) → next ≡ Some entry → ⊥) → next ≡ None
none_of None never = refl
none_of (Some entry) never = absurd (never entry refl)

-- the facts after an answer of the merge
abbrev pub HasAnswered : {R : Type 0} → (R → Option (List ℕ)) → List (PartReader R) → Merging → List (PartReader R) → Merging → Option Triple → Type 0
HasAnswered remaining inputs merge now merge_now next =
    MergesNext (left_in (map (coming_of remaining) inputs) merge) (left_in (map (coming_of remaining) now) merge_now) (Ok next) × (map standing_of now ≡ map standing_of inputs) × KeysGoOn merge.firsts merge_now.firsts (Ok next)
    × AllGiveWithin reads_within inputs merge.firsts now merge_now.firsts (Ok next) × MergeRefuses {X = Option Triple} merge.refused merge_now.refused (Ok next)

-- The text that is written of the readers of part files is the join of the files, or there is a reason why not.
use Rattle.std.proofs.Common.{◌≡◌, ℕ, ◌<◌, ◌^◌, nat_lt, Bool, true, false, suc, List, [], ◌∷◌, length, map, Option, Some, None, Result, Ok, refl, sym, ap, subst, ◌∙◌}
use Rattle.std.specs.Prelude.{MatchBool}
use Rattle.std.specs.List.{All}
use Rattle.std.proofs.lemmas.Bool.{ltb-true}
use Rattle.std.proofs.lemmas.List.{length-map}
use Rattle.std.proofs.lemmas.List.Elements.{All-head, All-tail}
use Rattle.pc_io.specs.Fields.{◌>>=◌}
use Rattle.pc_io.specs.Tallies.{failures_of}
use Rattle.pc_io.specs.declared.tally.Tally.{Tally}
use Rattle.pc_types.specs.declared.Refusal.{Refusal}
use Rattle.pc_types.specs.declared.Triple.{Triple}
use Rattle.pc_model.specs.Files.{File}
use Rattle.pc_part.specs.declared.ranges.Range.{Range}
use Rattle.pc_part.specs.Lawful.{IsPartFile}
use Rattle.pc_model.specs.TripleLists.{triples_of}
use Rattle.pc_part.specs.Reading.{part_at}
use Rattle.pc_merge.specs.Coming.{Coming}
use Rattle.pc_merge.specs.Given.{IsMerge}
use Rattle.pc_merge.specs.Inputs.{all_known, known_with}
use Rattle.pc_streams.specs.declared.reader.PartReader.{PartReader}
use Rattle.pc_streams.specs.Coming.{part_coming, part_header}
use Rattle.pc_streams.specs.Readers.{coming_of, header_of}
use Rattle.pc_stream_join.specs.Headers.{AreHeaded}
use Rattle.pc_stream_join.specs.Joining.{IsJoinRefusal, IsUnjoinedFor, file_of_entries}
use Rattle.pc_texts.specs.declared.files.NamedFile.{NamedFile}
use Rattle.pc_collapse_files.specs.declared.inputs.CollapseFault.{CollapseFault}
use Rattle.pc_collapse_files.specs.declared.inputs.CollapseFault.TheVariants as fault
use Rattle.pc_collapse_files.specs.Collapses.{AreUnjoined, HaveHeader, HoldTexts, IsJoinOf, IsShortIn, parts_at}
use Rattle.pc_collapse_files.specs.Inputs.{AreReadersOf, IsFileFault, IsUnwritten}
use Rattle.pc_collapse_files.specs.Reads.{TellsReads}
use Rattle.pc_collapse_files.proofs.FewEntries.{part_comes}
use Rattle.pc_stream_join.proofs.AgreeLaws.{cons_is, read_header, some_is}
use Rattle.pc_collapse_files.proofs.JoinedParts.{alone, merged_folds, parts_of}
use Rattle.pc_collapse_files.proofs.KeyCounts.{all_few}
use Rattle.pc_collapse_files.proofs.ReadFiles.{known_coming, known_header}

-- ---- the known facts of all

known_texts : (texts : List (List ℕ)) → all_known (map known_coming texts) ≡ Some (map part_coming texts)
known_texts [] = refl
known_texts (t ∷ ts) = ap (known_with (known_coming t)) (known_texts ts)

known_many : (known : List (Option Coming)) (inputs : List Coming) → all_known known ≡ Some inputs → length inputs ≡ length known
known_many [] inputs is = ap length (sym (some_is [] inputs is))
known_many (None ∷ known) inputs is = cc
known_many (Some x ∷ known) inputs is = by (all_known known) refl is (λ xs e. known_many known xs e)
  where
    by : (o : Option (List Coming)) → all_known known ≡ o → known_with (Some x) o ≡ Some inputs → ((xs : List Coming) → all_known known ≡ Some xs → length xs ≡ length known) → length inputs ≡ suc (length known)
    by None e same again = cc
    by (Some xs) e same again = ap length (sym (some_is (x ∷ xs) inputs same)) ∙ ap suc (again xs e)

-- ---- the parts

two_ok : (r : Result File Refusal) (s : Result (List File) Refusal) (x : File) (xs : List File) → r ≡ Ok x → s ≡ Ok xs → (r >>= λ part. s >>= λ parts. Ok (part ∷ parts)) ≡ Ok (x ∷ xs)
two_ok r s x xs one others = rw (one, others) refl

abbrev Sound : Coming → Type 0
Sound input = input.fault ≡ None

abbrev Few : Coming → Type 0
Few input = length input.entries < 2 ^ 64

parts_read : (headers : List (ℕ × List Range)) (texts : List (List ℕ)) → map known_header texts ≡ map read_header headers → All Sound (map part_coming texts) → All Few (map part_coming texts) → parts_at texts ≡ Ok (parts_of headers (map part_coming texts))
unfolding parts_at
parts_read [] [] is sound few = refl
parts_read (h ∷ hs) [] is sound few = cc
parts_read [] (t ∷ ts) is sound few = cc
parts_read (h ∷ hs) (t ∷ ts) is sound few =
    let parts = cons_is (known_header t) (read_header h) (map known_header ts) (map read_header hs) is in
    two_ok (part_at t) (parts_at ts) (file_of_entries h.0 h.1 (part_coming t).entries) (parts_of hs (map part_coming ts))
    (part_comes t h (some_is (part_header t) (Ok h) parts.0) (All-head Sound (part_coming t) (map part_coming ts) sound) (All-head Few (part_coming t) (map part_coming ts) few))
    (parts_read hs ts parts.1 (All-tail Sound (part_coming t) (map part_coming ts) sound) (All-tail Few (part_coming t) (map part_coming ts) few))

module _ {R : Type 0} (remaining : R → Option (List ℕ)) (files : List (NamedFile R)) (readers : List (PartReader R)) (are : AreReadersOf remaining files readers) where
  -- the further entries of the readers are those of the texts
  of_texts : (texts : List (List ℕ)) → HoldTexts remaining files texts → all_known (map (coming_of remaining) readers) ≡ Some (map part_coming texts)
  of_texts texts hold = ap all_known (are texts hold).1 ∙ known_texts texts

  -- the join of the files
  pub join_is : (run : ℕ) (ranges : List Range) (given : List Triple) → AreHeaded remaining run ranges readers → IsPartFile (file_of_entries run ranges given)
      → ((was : List Coming) → all_known (map (coming_of remaining) readers) ≡ Some was → IsMerge was given) → IsJoinOf remaining files (file_of_entries run ranges given)
  join_is run ranges given headed lawful merge = by (all_known (map (coming_of remaining) readers)) refl
    where
      by : (o : Option (List Coming)) → all_known (map (coming_of remaining) readers) ≡ o → IsJoinOf remaining files (file_of_entries run ranges given)
      by None unknown = (file_of_entries run ranges given ∷ [], λ texts hold. absurd (let bad : None ≡ Some (map part_coming texts) = sym unknown ∙ of_texts texts hold in cc), alone (file_of_entries run ranges given))
      by (Some was) known = (parts_of headed.headers was, λ texts hold. read texts hold, merged_folds run ranges given headed.headers was many headed.of_all all)
        where
          all : IsMerge was given
          all = merge was known

          many : length headed.headers ≡ length was
          many = sym (length-map headed.headers read_header) ∙ ap length (sym headed.read) ∙ length-map readers (header_of remaining) ∙ sym (known_many (map (coming_of remaining) readers) was known ∙ length-map readers (coming_of remaining))

          read : (texts : List (List ℕ)) → HoldTexts remaining files texts → parts_at texts ≡ Ok (parts_of headed.headers was)
          read texts hold =
              let same : map part_coming texts ≡ was = some_is (map part_coming texts) was (sym (of_texts texts hold) ∙ known) in
              let few = all_few was (triples_of given) all.inputs_rise all.over lawful.limit in
              subst (λ inputs. parts_at texts ≡ Ok (parts_of headed.headers inputs)) same
              (parts_read headed.headers texts (sym (are texts hold).0 ∙ headed.read) (subst (All Sound) (sym same) all.no_fault) (subst (All Few) (sym same) few))

  -- why the files can't be joined
  pub unjoined : (why : Refusal) → IsUnjoinedFor remaining readers why → AreUnjoined remaining files why
  unjoined why cause texts hold = cause (map part_coming texts) (of_texts texts hold)

-- the state of a file that was begun
pub unwritten : {R F : Type 0} (remaining : R → Option (List ℕ)) (contents : F → Option (List ℕ)) (files : List (NamedFile R)) (inputs : List (PartReader R)) (Refuses : Refusal → Type 0) (file : Tally F) (why : Refusal) (f : CollapseFault)
    → HaveHeader remaining files → AreUnjoined remaining files why → (nat_lt 0 (failures_of file) ≡ false → TellsReads inputs why) → IsJoinRefusal why → IsShortIn contents file → IsFileFault file why f → IsUnwritten remaining contents files inputs Refuses (Some file) f
unwritten remaining contents files inputs Refuses file why f have cause tells refusal short is = by (nat_lt 0 (failures_of file)) refl is
  where
    by : (t : Bool) → nat_lt 0 (failures_of file) ≡ t → MatchBool t (f ≡ fault.Unwritten) (f ≡ fault.Unjoined why) → IsUnwritten remaining contents files inputs Refuses (Some file) f
    by true above same = subst (IsUnwritten remaining contents files inputs Refuses (Some file)) (sym same) (have, (ltb-true 0 (failures_of file) above, short))
    by false none same = subst (IsUnwritten remaining contents files inputs Refuses (Some file)) (sym same) (have, cause, tells none, refusal, short)

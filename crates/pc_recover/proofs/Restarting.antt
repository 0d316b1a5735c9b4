-- Every cut of a run's log is recovered from.
use Rattle.std.proofs.Common.{◌≡◌, ℕ, ◌-◌, ◌≤◌, ◌<◌, ◌^◌, max, nat_lt, eqb, ltb, Bool, true, false, cond, List, [], ◌∷◌, length, take, Some, None, Result, Ok, Err, ◌⊎◌, inl, inr, refl, sym, ap, subst, ◌∙◌, arith}
use Rattle.std.specs.Prelude.{drop, IsTrue}
use Rattle.std.specs.List.{list_all, AllByRecursion, flat_map}
use Rattle.std.proofs.lemmas.Bool.{cases_lt, lt-ltb, le-ltb}
use Rattle.std.proofs.lemmas.Bool.Decides.{nat_tests}
use Rattle.std.proofs.lemmas.List.{length-append, length-take}
use Rattle.std.proofs.lemmas.List.Elements.{recursion_from_All}
use Rattle.pc_types.specs.declared.refusal.Refusal.{Refusal}
use Rattle.pc_types.specs.declared.refusal.Refusal.TheVariants.{OtherRun, Short}
use Rattle.pc_types.specs.declared.Entry.{Entry}
use Rattle.pc_io.specs.declared.Format.{Format}
use Rattle.pc_io.specs.Fields.{◌>>=◌, where_true}
use Rattle.pc_model.specs.Database.{Database}
use Rattle.pc_model.specs.Log.{after, has_token, state_at}
use Rattle.pc_model.specs.Files.{File, BaseFile, numbers_to}
use Rattle.pc_model.specs.Standing.{IsOfItsPoints}
use Rattle.pc_bases.specs.Lawful.{IsBaseFile, IsBaseText}
use Rattle.pc_part.specs.Reading.{part_at}
use Rattle.pc_bases.specs.Reading.{base_at}
use Rattle.pc_log.specs.Texts.{header_text_in, entry_text_in, log_text_in, HasLog}
use Rattle.pc_log.specs.Reading.{LogRead, log_at}
use Rattle.pc_log.specs.Laws.{IsLog, CutLogsAreRead, cut_read, left_behind}
use Rattle.pc_log.proofs.EntriesAgain.{header_length}
use Rattle.pc_recover.specs.declared.recovered.Skipped.{Skipped}
use Rattle.pc_recover.specs.Recovery.{Recovery, recovery, recovery_on, recovered_point, read_files, decoded_files, files_to, with_files, log_of_run, read_after_crash, fault_after_crash, are_zeros, entries_after, unused_from, first_missing, is_covered, reaches}
use Rattle.pc_recover.specs.Restarts.{AreWhole, IsRestored, EveryCutIsRecovered, base_of_point, token_number}
use Rattle.pc_recover.proofs.RecoveredPoints.{last_is_reached, last_from_base, holds_at}
use Rattle.pc_recover.proofs.RecoveredFiles.{UnlessFull, IsUsed, are_used, covered_token, files_give}
use Rattle.pc_recover.proofs.RecoveredLogs.{all_in_order, restored_entries, take_none}

-- the files that are had are those of the run's points
files_had : (run : ℕ) (start : Database) (log : List Entry) (parts : List (List ℕ)) → AllByRecursion (λ bytes. (file : File) → part_at bytes ≡ Ok file → file.run ≡ run → IsOfItsPoints run start log file) parts
    → AllByRecursion (IsOfItsPoints run start log) (read_files (decoded_files run parts))
files_had run start log [] all = tt
files_had run start log (bytes ∷ parts) all = by (part_at bytes) refl (files_had run start log parts all.1)
  where
    by : (r : Result File Refusal) → part_at bytes ≡ r → AllByRecursion (IsOfItsPoints run start log) (read_files (decoded_files run parts))
        → AllByRecursion (IsOfItsPoints run start log) (read_files ((r >>= λ file. where_true (eqb file.run run) OtherRun file) ∷ decoded_files run parts))
    by (Err why) is others = others
    by (Ok file) is others = by_run (eqb file.run run) refl
      where
        by_run : (t : Bool) → eqb file.run run ≡ t → AllByRecursion (IsOfItsPoints run start log) (read_files (cond t (Ok file) (Err OtherRun) ∷ decoded_files run parts))
        by_run true same = (all.0 file is (grind (arith, nat_tests)), others)
        by_run false other = others

-- ---- the log

has_header : (format : Format) (run : ℕ) (log : List Entry) → 20 ≤ length (log_text_in format run log)
has_header format run log = omega (arith, length-append (header_text_in format run) (flat_map (entry_text_in format) log), header_length format run)

-- the reading of the first c bytes of a log
pub record IsRead (format : Format) (run : ℕ) (log : List Entry) (c p : ℕ) (read : LogRead) : Type 0 where
  pub whole : AreWhole format run log c p
  pub entries : read.entries ≡ take p log
  pub fault : (read.fault ≡ None) ⊎ (read.fault ≡ Some Short)

module _ (format : Format) (run : ℕ) (log : List Entry) (c : ℕ) where
  abbrev cut : List ℕ
  cut = take c (log_text_in format run log)

  cut_length : length cut ≤ c
  cut_length = omega (arith, length-take c (log_text_in format run log))

  pub log_is_read : CutLogsAreRead → run < 2 ^ 64 → IsLog log → HasLog format log → (p : ℕ) × (read : LogRead) × (log_of_run run cut ≡ Ok read) × IsRead format run log c p read
  log_is_read cuts fits is_log has = elim (cases_lt c 20) [ inl less ↦ in_header less | inr more ↦ behind_header more ]
    where
      in_header : c < 20 → (p : ℕ) × (read : LogRead) × (log_of_run run cut ≡ Ok read) × IsRead format run log c p read
      in_header less =
          let short : ltb (length cut) 20 ≡ true = lt-ltb _ _ (omega (arith, less, cut_length)) in
          let read : LogRead = record { run = run; entries = []; rest = length cut; fault = None } in (
            0,
            read,
            ap (λ t. cond t (Ok read) (log_at cut >>= λ found. where_true (eqb found.run run) OtherRun (read_after_crash cut found))) short,
            record { whole = record { some = omega arith; there = inl refl; next = λ _. omega (arith, less, has_header format run (take 1 log)) }; entries = sym (take_none log); fault = inl refl },
          )

      behind_header : 20 ≤ c → (p : ℕ) × (read : LogRead) × (log_of_run run cut ≡ Ok read) × IsRead format run log c p read
      behind_header more =
          let long : ltb (length cut) 20 ≡ false = le-ltb _ _ (omega (arith, more, has_header format run log, length-take c (log_text_in format run log))) in
          let read = (cuts format run log c fits is_log.lawful has is_log.in_order).1 more in
          let same : eqb run run ≡ true = grind (arith, nat_tests) in (
            read.0,
            read_after_crash cut (cut_read format run log c read.0),
            rw (long, read.2, same) refl,
            record { whole = record { some = read.1.some; there = inr read.1.there; next = read.1.next }; entries = refl; fault = by (drop (length cut - left_behind format run log c read.0) cut) (eqb (left_behind format run log c read.0) 0) },
          )
        where
          short : (t : Bool) → cond t (Some Short) (Some Short) ≡ Some Short
          short true = refl
          short false = refl

          by : (rest : List ℕ) (t : Bool) → (fault_after_crash rest (cond t None (Some Short)) ≡ None) ⊎ (fault_after_crash rest (cond t None (Some Short)) ≡ Some Short)
          by rest true = inl refl
          by rest false = inr (short (are_zeros rest))

-- two points, of which the first isn't above the second
less_than : (b n : ℕ) → nat_lt b n ≡ true → b < n
less_than b n is = grind (arith, nat_tests)

same_point : (b n : ℕ) → b ≤ n → nat_lt b n ≡ false → b ≡ n
same_point b n low not_less = grind (arith, nat_tests)

-- ---- all of it

-- the recovery of the rules once the files are applied
abbrev given : ℕ → List Skipped → BaseFile → LogRead → Recovery
given n skipped laid read = record { pairs = after laid.pairs (entries_after n read.entries); point = n; entries = length read.entries; skipped = skipped; fault = read.fault }

-- the same rules, over the point and the parts that are skipped
abbrev laid_then_read : ℕ → List Skipped → ℕ → List ℕ → Result BaseFile Refusal → Result Recovery Refusal
laid_then_read n skipped run bytes with_parts = with_parts >>= λ laid. log_of_run run bytes >>= λ read. Ok (given n skipped laid read)

module _ (format : Format) (run : ℕ) (start : Database) (log : List Entry) (b n : ℕ) (c : ℕ) (skipped : List Skipped) where
  -- the recovery, if n is the recovered point
  pub record IsRestoredAt (found : Recovery) : Type 0 where
    pub point : found.point ≡ n
    pub entries : AreWhole format run log c found.entries
    pub pairs : found.pairs ≡ after start (take (max found.entries (token_number found.point log)) log)
    pub fault : (found.fault ≡ None) ⊎ (found.fault ≡ Some Short)

  is_restored : (p : ℕ) (laid : BaseFile) (read : LogRead) → ((n ≡ 0) ⊎ (has_token n log ≡ true)) → laid.pairs ≡ state_at start log n → IsRead format run log c p read → IsRestoredAt (given n skipped laid read)
  is_restored p laid read sealed state is =
      let count : length read.entries ≡ p = ap length is.entries ∙ omega (arith, length-take p log, is.whole.some) in
      record {
        point = refl;
        entries = subst (AreWhole format run log c) (sym count) is.whole;
        pairs = ap (λ db. after db (entries_after n read.entries)) state ∙ ap (λ es. after (state_at start log n) (entries_after n es)) is.entries ∙ restored_entries start log n p sealed
            ∙ ap (λ k. after start (take (max k (token_number n log)) log)) (sym count);
        fault = is.fault;
      }

  -- once the files are applied, the log's beginning is read and applied
  pub on_files : CutLogsAreRead → run < 2 ^ 64 → IsLog log → HasLog format log → ((n ≡ 0) ⊎ (has_token n log ≡ true)) → (r : Result BaseFile Refusal) → UnlessFull r (λ laid. laid.pairs ≡ state_at start log n)
      → UnlessFull (laid_then_read n skipped run (cut format run log c) r) IsRestoredAt
  on_files cuts fits is_log has sealed (Err why) is = is
  on_files cuts fits is_log has sealed (Ok laid) is =
      let read = log_is_read format run log c cuts fits is_log has in
      subst (λ (found : Result LogRead Refusal). UnlessFull (found >>= λ read. Ok (given n skipped laid read)) IsRestoredAt) (sym read.2) (is_restored read.0 laid read.1 sealed is read.3)

-- a recovered point is 0, or its token is in the log
point_sealed : (run : ℕ) (start : Database) (log : List Entry) (b n : ℕ) (files : List File) → b ≤ n → ((b ≡ 0) ⊎ IsTrue (has_token b log)) → AllByRecursion (IsUsed run start log n) files
    → list_all (is_covered files) (drop b (numbers_to n)) ≡ true → ((n ≡ 0) ⊎ (has_token n log ≡ true))
point_sealed run start log b n files low sealed used reached = by (nat_lt b n) refl
  where
    base_sealed : b ≡ n → (b ≡ 0) ⊎ IsTrue (has_token b log) → (n ≡ 0) ⊎ (has_token n log ≡ true)
    base_sealed same (inl zeroth) = inl (sym same ∙ zeroth)
    base_sealed same (inr there) = inr (ap (λ k. has_token k log) (sym same) ∙ there)

    by : (t : Bool) → nat_lt b n ≡ t → (n ≡ 0) ⊎ (has_token n log ≡ true)
    by true less = inr (covered_token run start log n n files used (holds_at (is_covered files) b n n reached (less_than b n less) (omega arith)))
    by false same = base_sealed (same_point b n low same) sealed

-- the rules on the base of a run's point and files of its points
restart_on : (format : Format) (run : ℕ) (start : Database) (log : List Entry) (b n c : ℕ) (skipped : List Skipped) (had : List File) → CutLogsAreRead → run < 2 ^ 64 → IsLog log → HasLog format log → ((b ≡ 0) ⊎ IsTrue (has_token b log))
    → AllByRecursion (IsOfItsPoints run start log) had → b ≤ n → reaches b had n ≡ true
    → UnlessFull (laid_then_read n skipped run (cut format run log c) (with_files (base_of_point run start log b) (files_to n had))) (IsRestoredAt format run start log b n c skipped)
restart_on format run start log b n c skipped had cuts fits is_log has base_sealed of low reached =
    let used = are_used run start log n had of in
    let sealed = point_sealed run start log b n (files_to n had) low base_sealed used reached in
    on_files format run start log b n c skipped cuts fits is_log has sealed (with_files (base_of_point run start log b) (files_to n had))
    (files_give run start log b n low (all_in_order log is_log.in_order n sealed) (files_to n had) used reached)

-- the rules on a base that was read
on_base : (base : List ℕ) (read : BaseFile) (parts : List (List ℕ)) (bytes : List ℕ) → base_at base ≡ Ok read → recovery base parts bytes ≡ recovery_on read (decoded_files read.run parts) bytes
unfolding recovery
on_base base read parts bytes is = ap (λ (r : Result BaseFile Refusal). r >>= λ b. recovery_on b (decoded_files b.run parts) bytes) is

in_turn : (read : BaseFile) (files : List (Result File Refusal)) (bytes : List ℕ)
    → recovery_on read files bytes ≡ laid_then_read (recovered_point read.point (read_files files)) (unused_from 0 (recovered_point read.point (read_files files)) (first_missing read.point (read_files files)) files) read.run bytes
    (with_files read (files_to (recovered_point read.point (read_files files)) (read_files files)))
in_turn read files bytes = refl

-- every cut is recovered from, once base texts and cut logs are read as they are written
pub restarts : ((bytes : List ℕ) (base : BaseFile) → IsBaseFile base → IsBaseText bytes base → base_at bytes ≡ Ok base) → CutLogsAreRead → EveryCutIsRecovered
restarts bases_read cuts format run start log b base parts c is_log has files =
    let point : BaseFile = base_of_point run start log b in
    let base_read : base_at base ≡ Ok point = bases_read base point files.base_fits files.base_is in
    let of = files_had run start log parts (recursion_from_All _ parts files.parts_are) in
    let had = read_files (decoded_files run parts) in
    let low = last_from_base b had 65535 files.base_fits.point in
    let given = restart_on format run start log b (recovered_point b had) c (unused_from 0 (recovered_point b had) (first_missing b had) (decoded_files run parts)) had cuts files.base_fits.run is_log has files.base_sealed of low (last_is_reached b had 65535) in
    subst (λ (r : Result Recovery Refusal). UnlessFull r (IsRestored format run start log b parts c)) (sym (on_base base point parts (cut format run log c) base_read ∙ in_turn point (decoded_files run parts) (cut format run log c)))
    (as_restored (laid_then_read (recovered_point b had) (unused_from 0 (recovered_point b had) (first_missing b had) (decoded_files run parts)) run (cut format run log c) (with_files point (files_to (recovered_point b had) had))) given)
  where
    as_restored : (r : Result Recovery Refusal) → UnlessFull r (IsRestoredAt format run start log b (recovered_point b (read_files (decoded_files run parts))) c (unused_from 0 (recovered_point b (read_files (decoded_files run parts))) (first_missing b (read_files (decoded_files run parts))) (decoded_files run parts)))
        → UnlessFull r (IsRestored format run start log b parts c)
    as_restored (Ok found) is = record { point = is.point; entries = is.entries; pairs = is.pairs; fault = is.fault }
    as_restored (Err why) is = is

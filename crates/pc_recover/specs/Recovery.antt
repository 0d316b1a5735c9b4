-- Recovery: the state that a base, part files and a log give after a crash, by its rules, for any bytes.
use Rattle.std.specs.Prelude.{◌≡◌, ℕ, zero, suc, ◌+◌, ◌-◌, ◌==◌, not, nat_lt, nat_le, Bool, List, [], ◌∷◌, length, map, filter, find, drop, Option, Some, None, Result, Ok, Err, if◌then◌else◌}
use Rattle.std.specs.List.{list_any, list_all}
use Rattle.pc_types.specs.declared.refusal.Refusal.{Refusal}
use Rattle.pc_types.specs.declared.refusal.Refusal.TheVariants.{OtherRun, Gap, Short}
use Rattle.pc_types.specs.declared.Entry.{Entry}
use Rattle.pc_io.specs.Fields.{◌>>=◌, where_true}
use Rattle.pc_types.specs.declared.limits.TheConstants.{MOST_POINTS}
use Rattle.pc_model.specs.Sets as set
use Rattle.pc_model.specs.Database.{Database, database_of}
use Rattle.pc_model.specs.Files.{File, BaseFile, joined_file, numbers_to}
use Rattle.pc_model.specs.LaidFiles.{laid_file, greatest}
use Rattle.pc_model.specs.Log.{after, log_after_point}
use Rattle.pc_model.specs.Replies.{join_causes}
use Rattle.pc_part.specs.Joins.{first_cause}
use Rattle.pc_bases.specs.Layings.{lay_causes}
use Rattle.pc_part.specs.Reading.{part_at}
use Rattle.pc_bases.specs.Reading.{base_at}
use Rattle.pc_log.specs.Reading.{LogRead, log_at}
use Rattle.pc_recover.specs.declared.recovered.Skipped.{Skipped}
use Rattle.pc_recover.specs.declared.recovered.Recovered.{Recovered}

-- ---- which files there are

-- the file of a part's bytes, if they are the text of a part of the run
abbrev pub decoded_file : ℕ → List ℕ → Result File Refusal
decoded_file run bytes = do
  file ← part_at bytes
  where_true (file.run == run) OtherRun file

-- the files, without those that can't be read
abbrev pub read_files : List (Result File Refusal) → List File
read_files [] = []
read_files (Ok file ∷ others) = file ∷ read_files others
read_files (Err why ∷ others) = read_files others

-- ---- which point is recovered

-- one of the files covers the point
abbrev pub is_covered : List File → ℕ → Bool
is_covered files point = list_any (λ (file : File). set.contains file.points point) files

-- the files without a point above n
abbrev pub files_to : ℕ → List File → List File
files_to n files = filter (λ (file : File). nat_le (greatest file.points) n) files

-- the files without a point above n cover all points from b + 1 to n
abbrev pub reaches : ℕ → List File → ℕ → Bool
reaches b files n = list_all (is_covered (files_to n files)) (drop b (numbers_to n))

-- the greatest point up to this one that the files reach from b
abbrev pub last_reached : ℕ → List File → ℕ → ℕ
last_reached b files zero = b
last_reached b files (suc n) = if reaches b files (suc n) then suc n else last_reached b files n

-- the recovered point: the greatest of all that they reach
abbrev pub recovered_point : ℕ → List File → ℕ
recovered_point b files = last_reached b files MOST_POINTS

-- ---- which files are not used

-- the least point above b that no file covers
abbrev pub first_missing : ℕ → List File → Option ℕ
first_missing b files = find (λ point. not (is_covered files point)) (drop b (numbers_to MOST_POINTS))

-- why a file isn't used, if it isn't: it can't be read, or it has a point above n; no file covers the point of the gap
abbrev pub why_unused : ℕ → Option ℕ → Result File Refusal → Option Refusal
why_unused n gap (Err why) = Some why
why_unused n None (Ok file) = None
why_unused n (Some point) (Ok file) = if nat_lt n (greatest file.points) then Some (Gap point) else None

-- the list with the place and the reason, if there is one
abbrev pub with_reason : ℕ → Option Refusal → List Skipped → List Skipped
with_reason place None unused = unused
with_reason place (Some why) unused = record { place = place; reason = why } ∷ unused

-- the places of the files that aren't used, from this place on, with the reasons
abbrev pub unused_from : ℕ → ℕ → Option ℕ → List (Result File Refusal) → List Skipped
unused_from place n gap [] = []
unused_from place n gap (file ∷ others) = with_reason place (why_unused n gap file) (unused_from (place + 1) n gap others)

-- ---- the database at the point

-- the result, if no cause of a refusal holds
abbrev pub ok_unless : {X : Type 0} → Option Refusal → X → Result X Refusal
ok_unless None x = Ok x
ok_unless (Some why) x = Err why

-- the join of a file with others, in order
abbrev pub try_folded : File → List File → Result File Refusal
try_folded file [] = Ok file
try_folded file (next ∷ files) = do
  joined ← ok_unless (first_cause (join_causes (Some file) (Some next))) (joined_file file next)
  try_folded joined files

-- the base with the join of the files applied to it, if there are any
abbrev pub with_files : BaseFile → List File → Result BaseFile Refusal
with_files base [] = Ok base
with_files base (file ∷ files) = do
  joined ← try_folded file files
  ok_unless (first_cause (lay_causes base joined)) (laid_file base joined)

-- ---- the log

-- all of the bytes are 0
abbrev pub are_zeros : List ℕ → Bool
are_zeros bytes = list_all (λ byte. byte == 0) bytes

-- the fault of a log's rest after a crash: zeros, which a file system leaves where bytes have not reached its disk, count as truncated
abbrev pub fault_after_crash : List ℕ → Option Refusal → Option Refusal
fault_after_crash rest None = None
fault_after_crash rest (Some fault) = if are_zeros rest then Some Short else Some fault

-- the same reading of these bytes, after a crash
abbrev pub read_after_crash : List ℕ → LogRead → LogRead
read_after_crash bytes log = record log { fault = fault_after_crash (drop (length bytes - log.rest) bytes) log.fault }

-- the reading of the run's log; fewer bytes than its header has count as no entries
abbrev pub log_of_run : ℕ → List ℕ → Result LogRead Refusal
log_of_run run bytes = if nat_lt (length bytes) 20 then Ok (record { run = run; entries = []; rest = length bytes; fault = None }) else (log_at bytes >>= λ log. where_true (log.run == run) OtherRun (read_after_crash bytes log))

-- the entries that the state of n lacks: all if n is 0, otherwise those after its token, none if it has none there
abbrev pub entries_after : ℕ → List Entry → List Entry
entries_after n entries = if n == 0 then entries else log_after_point n entries

-- ---- all of it

-- the result of a recovery: the pairs, the point of the files that are in them, the number of the log's whole entries, the places
-- of the parts that were not used with the reasons, and the fault of the log's rest
pub record Recovery : Type 0 where
  pub pairs : Database
  pub point : ℕ
  pub entries : ℕ
  pub skipped : List Skipped
  pub fault : Option Refusal

-- the parts' files
abbrev pub decoded_files : ℕ → List (List ℕ) → List (Result File Refusal)
decoded_files run parts = map (decoded_file run) parts

-- the recovery on a base of these files and these bytes of a log: the files without a point above the recovered one are applied to
-- the base, and then the log's entries that came after that point
abbrev pub recovery_on : BaseFile → List (Result File Refusal) → List ℕ → Result Recovery Refusal
recovery_on base files log_bytes =
    let had = read_files files in
    let n = recovered_point base.point had in
    do
      laid ← with_files base (files_to n had)
      log ← log_of_run base.run log_bytes
      Ok (record { pairs = after laid.pairs (entries_after n log.entries); point = n; entries = length log.entries; skipped = unused_from 0 n (first_missing base.point had) files; fault = log.fault })

-- The rules: the base must be a text; parts that are no text of the run, or not used, are skipped.
unfoldable pub recovery : List ℕ → List (List ℕ) → List ℕ → Result Recovery Refusal
recovery base_bytes parts log_bytes = do
  base ← base_at base_bytes
  recovery_on base (decoded_files base.run parts) log_bytes

-- the bytes are the text of a base of this run
abbrev pub IsOfRun : List ℕ → ℕ → Type 0
IsOfRun base_bytes run = (base : BaseFile) × (base_at base_bytes ≡ Ok base) × (run ≡ base.run)

-- the recovery of a call, without its run and its place in memory
abbrev pub recovery_of : Recovered → Recovery
recovery_of r = record { pairs = database_of r.pairs.items; point = r.point; entries = r.entries; skipped = r.skipped.items; fault = r.fault }

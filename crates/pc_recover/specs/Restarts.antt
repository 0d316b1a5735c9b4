-- Restart: the recovery of a run whose files came back as they were written, with any beginning of its log.
use Rattle.std.specs.Prelude.{◌≡◌, ℕ, ◌+◌, ◌≤◌, ◌<◌, ◌==◌, ◌⊎◌, max, List, length, take, All, Some, None, Ok, MatchResult, IsTrue, if◌then◌else◌}
use Rattle.pc_types.specs.declared.refusal.Refusal.TheVariants.{Short, Full}
use Rattle.pc_types.specs.declared.Entry.{Entry}
use Rattle.pc_io.specs.declared.Format.{Format}
use Rattle.pc_model.specs.Database.{Database}
use Rattle.pc_model.specs.Log.{after, front, has_token, state_at}
use Rattle.pc_model.specs.Files.{File, BaseFile}
use Rattle.pc_model.specs.Standing.{IsOfItsPoints}
use Rattle.pc_bases.specs.Lawful.{IsBaseFile, IsBaseText}
use Rattle.pc_part.specs.Reading.{part_at}
use Rattle.pc_log.specs.Texts.{log_text_in, HasLog}
use Rattle.pc_log.specs.Laws.{IsLog}
use Rattle.pc_recover.specs.Recovery.{Recovery, recovery, recovered_point, read_files, decoded_files}

-- the base of a run at a point: the state of the point, by the log
abbrev pub base_of_point : ℕ → Database → List Entry → ℕ → BaseFile
base_of_point run start log b = record { run = run; point = b; pairs = state_at start log b }

-- The files of a run came back as they were written, each in either format: the base is a text of the state of a point, 0 or one
-- whose token the log has; and each part that is a part's text of the run is the file of some of its points. Other parts may be
-- anything.
pub record AreFilesOf (run : ℕ) (start : Database) (log : List Entry) (b : ℕ) (base : List ℕ) (parts : List (List ℕ)) : Type 0 where
  pub base_is : IsBaseText base (base_of_point run start log b)
  pub base_fits : IsBaseFile (base_of_point run start log b)
  pub base_sealed : (b ≡ 0) ⊎ IsTrue (has_token b log)
  pub parts_are : All (λ bytes. (file : File) → part_at bytes ≡ Ok file → file.run ≡ run → IsOfItsPoints run start log file) parts

-- the number of the point's token among the log's entries, from 1 on; 0 for the point 0
abbrev pub token_number : ℕ → List Entry → ℕ
token_number n log = if n == 0 then 0 else length (front n log) + 1

-- the first p entries are those whose text is whole in the first c bytes of the log's
pub record AreWhole (format : Format) (run : ℕ) (log : List Entry) (c p : ℕ) : Type 0 where
  pub some : p ≤ length log
  pub there : (p ≡ 0) ⊎ (length (log_text_in format run (take p log)) ≤ c)
  pub next : p < length log → c < length (log_text_in format run (take (p + 1) log))

-- The recovery from these files and the first c bytes of the log: the database after the first entries, up to the last that is
-- whole in these bytes, or up to the recovered point's token if that is further.
pub record IsRestored (format : Format) (run : ℕ) (start : Database) (log : List Entry) (b : ℕ) (parts : List (List ℕ)) (c : ℕ) (found : Recovery) : Type 0 where
  pub point : found.point ≡ recovered_point b (read_files (decoded_files run parts))
  pub entries : AreWhole format run log c found.entries
  pub pairs : found.pairs ≡ after start (take (max found.entries (token_number found.point log)) log)
  pub fault : (found.fault ≡ None) ⊎ (found.fault ≡ Some Short)

-- Every cut of a run's log of either format is recovered from, and only the entry limit refuses.
abbrev pub EveryCutIsRecovered : Type 0
EveryCutIsRecovered =
    (format : Format) (run : ℕ) (start : Database) (log : List Entry) (b : ℕ) (base : List ℕ) (parts : List (List ℕ)) (c : ℕ) → IsLog log → HasLog format log → AreFilesOf run start log b base parts →
    MatchResult (recovery base parts (take c (log_text_in format run log))) (IsRestored format run start log b parts c) (λ refusal. refusal ≡ Full)

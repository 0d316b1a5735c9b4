-- The report of a closed store: the number of commits in its log, the file of all points, and whether its files are correct.
use Rattle.std.specs.Prelude.{◌≡◌, ◌≤◌, ◌<◌, ◌↔◌, ◌⊎◌, ⊤, ℕ, Bool, true, false, List, [], ◌∷◌, ◌++◌, Option, Some, None, Ok, Err, All, IsTrue, IsFalse, length, filter}
use Rattle.std.specs.List.{list_any}
use Rattle.pc_types.specs.declared.Entry.{Entry}
use Rattle.pc_types.specs.declared.Entry.TheVariants.{Commit, Token}
use Rattle.pc_types.specs.declared.Refusal.{Refusal}
use Rattle.pc_types.specs.declared.Refusal.TheVariants.{OutOfMemory}
use Rattle.pc_types.specs.declared.Refusal.TheVariants as refusal
use Rattle.pc_types.specs.declared.limits.TheConstants.{MOST_FILE_ENTRIES}
use Rattle.pc_model.specs.Maps.{len}
use Rattle.pc_model.specs.Sets as set
use Rattle.pc_model.specs.Files.{BaseFile, File}
use Rattle.pc_model.specs.History.{History, log_of}
use Rattle.pc_model.specs.LaidFiles.{laid_file}
use Rattle.pc_model.specs.Replies.{Setting, IsLegalHistory}
use Rattle.pc_model.specs.Standing.{IsOfItsPoints}
use Rattle.pc_part.specs.Joins.{first_cause}
use Rattle.pc_bases.specs.Layings.{lay_causes}
use Rattle.pc_merge.specs.Folds.{Folds}
use Rattle.pc_collapse.specs.Laws.{IsOfAllPoints}
use Rattle.pc_audit.specs.Checks.{IsFileRight}
use Rattle.pc_outcomes.specs.declared.run_report.Collapsed.{Collapsed}
use Rattle.pc_outcomes.specs.declared.run_report.StoreReport.{StoreReport}

-- whether the entry is a commit
abbrev pub is_commit : Entry → Bool
is_commit (Commit session writes) = true
is_commit (Token phase point) = false

-- how many commits the log has
abbrev pub commits_in : List Entry → ℕ
commits_in log = length (filter is_commit log)

-- one of the files has the point
abbrev pub has_point : List File → ℕ → Bool
has_point files point = list_any (λ (file : File). set.contains file.points point) files

-- the file is the fold of these; there is none of no files
abbrev pub Folded : List File → Option File → Type 0
Folded files None = files ≡ []
Folded files (Some file) = Folds files (Ok file)

-- the report of a file: its points, the number of its entries, and the number of the base's pairs with it applied
abbrev pub summary_of : BaseFile → File → Collapsed
summary_of base file = record { points = set.items file.points; entries = len file.triples; pairs = len (laid_file base file).pairs }

-- the same if there may be none
abbrev pub summary_if_any : BaseFile → Option File → Option Collapsed
summary_if_any base None = None
summary_if_any base (Some file) = Some (summary_of base file)

-- the files, and after them another one, if there is one
abbrev pub with_file : List File → Option File → List File
with_file files None = files
with_file files (Some file) = files ++ file ∷ []

-- Some of a store's files were folded to one, with this report; and this is whether they and it are correct by the log.
pub record IsStoreReport (base : BaseFile) (log : List Entry) (files some : List File) (left : StoreReport) : Type 0 where
  pub collapsed : Option File
  pub folded : Folded some collapsed
  pub summary : left.collapsed ≡ summary_if_any base collapsed
  pub right : IsTrue left.is_right ↔ All (IsFileRight base.pairs log) (with_file files collapsed)

-- there are files, and this is why they have no fold
abbrev pub IsUnfolded : List File → Refusal → Type 0
IsUnfolded files why = ¬ (files ≡ []) × Folds files (Err why)

-- there is a file, and this is why the base can't have it applied to it
abbrev pub IsUnlaid : BaseFile → Option File → Refusal → Type 0
IsUnlaid base None why = ⊥
IsUnlaid base (Some file) why = first_cause (lay_causes base file) ≡ Some why

-- Why nothing is reported of what is left: an allocation failed, or the files have no fold, or it can't be applied to the base.
abbrev pub IsReportUntold : BaseFile → List File → Refusal → Type 0
IsReportUntold base files why = (why ≡ OutOfMemory) ⊎ IsUnfolded files why ⊎ ((file : Option File) × Folded files file × IsUnlaid base file why)

-- A legal history leaves this: the base is that of the start, the log that of the history, and each file that of its points.
pub record AreLeftAfter (st : Setting) (history : History) (base : BaseFile) (log : List Entry) (files : List File) : Type 0 where
  pub legal : IsLegalHistory st history
  pub start : base ≡ record { run = st.run; point = 0; pairs = st.base }
  pub log_is : log ≡ log_of history
  pub worth : All (IsOfItsPoints st.run st.base log) files

-- The point is at or below one of the files' points, and none of them has it.
abbrev pub IsMissing : List File → ℕ → Type 0
IsMissing files point = (1 ≤ point) × IsFalse (has_point files point) × ((later : ℕ) × (point ≤ later) × IsTrue (has_point files later))

-- Why nothing is reported of such files: an allocation failed; there are some, and the store began with more pairs than it has room
-- for, or has room for more than a file may have; or a point is missing.
abbrev pub IsUntoldAfter : Setting → List File → Refusal → Type 0
IsUntoldAfter st files refusal.OutOfMemory = ⊤
IsUntoldAfter st files refusal.Full = ¬ (files ≡ []) × ((st.capacity < len st.base) ⊎ (MOST_FILE_ENTRIES < st.capacity))
IsUntoldAfter st files (refusal.Gap point) = IsMissing files point
IsUntoldAfter st files other = ⊥

-- the file is the one that the log gives the points of all these; there is none of no files
abbrev pub IsOfAll : BaseFile → List Entry → List File → Option File → Type 0
IsOfAll base log files None = files ≡ []
IsOfAll base log files (Some file) = IsOfAllPoints base.run base.pairs log files file

-- The report of a store that a legal history left: one file of the points of all these, and that everything is correct.
pub record IsLegacy (base : BaseFile) (log : List Entry) (files : List File) (left : StoreReport) : Type 0 where
  pub collapsed : Option File
  pub of_all : IsOfAll base log files collapsed
  pub summary : left.collapsed ≡ summary_if_any base collapsed
  pub right : left.is_right ≡ true

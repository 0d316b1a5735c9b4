-- A run of a workload: the state that its store starts from, the reading of its text, its output, why it may fail, and the report of that.
use Rattle.std.specs.Prelude.{◌≡◌, ℕ, Bool, List, Option, Some, None, Result, Ok, Err, [], is_some, IsOk, IfOk, IfSome, MatchOption, codes}
use Rattle.std.specs.Io.KnownBytes.{Appends}
use Rattle.pc_io.specs.Counted.{HasRisen, AppendsBeginning}
use Rattle.pc_io.specs.Tallies.{inner_of, failures_of}
use Rattle.pc_types.specs.declared.limits.TheConstants.{MOST_SESSIONS}
use Rattle.pc_types.specs.declared.refusal.Refusal.{Refusal}
use Rattle.pc_types.specs.declared.refusal.Refusal.TheVariants.{Device}
use Rattle.pc_io.specs.declared.tally.Tally.{Tally}
use Rattle.pc_model.specs.Database.{database_of}
use Rattle.pc_model.specs.Files.{BaseFile, File}
use Rattle.pc_model.specs.History.{History, log_of}
use Rattle.pc_model.specs.Replies.{Setting, IsLegalHistory}
use Rattle.pc_jobs.specs.Workloads.{reading_of}
use Rattle.pc_jobs.specs.declared.works.Workload.{Workload}
use Rattle.pc_jobs.specs.declared.workloads.WorkloadReading.{WorkloadReading}
use Rattle.pc_jobs.specs.declared.workloads.WorkloadReading.TheVariants as reading
use Rattle.pc_restore.specs.Bases.{IsBaseMade, IsBaseUnmade}
use Rattle.pc_texts.specs.Files.{TellsOf, IsUnread, refusal_of}
use Rattle.pc_restore.specs.Recoveries as recoveries
use Rattle.pc_threads.specs.declared.fault.ThreadsFault.{ThreadsFault}
use Rattle.pc_threads.specs.declared.fault.ThreadsFault.TheVariants as fault
use Rattle.pc_runs.specs.declared.failure.RunFailure.{RunFailure}
use Rattle.pc_runs.specs.declared.failure.RunFailure.TheVariants as failure
use Rattle.pc_runs.specs.declared.files.RunFolder.{RunFolder}
use Rattle.pc_runs.specs.declared.files.Unusable.{Unusable}
use Rattle.pc_runs.specs.declared.files.Unusable.TheVariants as unusable
use Rattle.pc_runs.specs.declared.origin.Origin.{Origin}
use Rattle.pc_runs.specs.declared.origin.Start.{Start}
use Rattle.pc_runs.specs.declared.origin.Start.TheVariants as start
use Rattle.pc_outcomes.specs.declared.run_report.RunReport.{RunReport}
use Rattle.pc_outcomes.specs.declared.run_report.Printed.{Printed}
use Rattle.pc_outcomes.specs.declared.run_report.Printed.TheVariants as printed
use Rattle.pc_outcomes.specs.Leaving.{commits_in, IsLegacy}
use Rattle.pc_outcomes.specs.Outcomes.{printed_text, run_status}
use Rattle.pc_workers.specs.Covering.{HaveJustTo}
use Rattle.pc_runs.specs.Faults.{EndsRun}
use Rattle.pc_runs.specs.Folders.{LeavesFiles, base_of}
use Rattle.pc_runs.specs.Worked.{HaveRunBy}
use Rattle.pc_texts.specs.FileNames.{name_of_file}
use Rattle.pc_texts.specs.declared.file_names.FileName.{FileName}

-- the store of a run over this base: 64 sessions, and room for this many keys
abbrev pub run_setting : BaseFile → ℕ → Setting
run_setting base capacity = record { run = base.run; base = base.pairs; sessions = MOST_SESSIONS; capacity = capacity }

-- It is the base that a run starts from. Without a folder it has no pairs and the run's number, and nothing is reported; otherwise
-- it is made of the folder, which isn't damaged if that is not accepted, and its damage was reported.
abbrev pub IsRunBase : {S T : Type 0} → (S → Option (List ℕ)) → (T → Option (List ℕ)) → Start S → Tally T → Tally T → BaseFile → Type 0
IsRunBase remaining contents (start.Empty run) old new base = (base ≡ record { run = run; point = 0; pairs = database_of [] }) × (new ≡ old)
IsRunBase remaining contents (start.Folder old_run) old new base = IsBaseMade remaining contents old_run.folder old_run.accepts_damage old new base

-- A run was to start from the folder of this name, and there is no base of it for this reason: nothing was reported yet, or, if the
-- folder is damaged and that is not accepted, its damage.
abbrev pub IsUnstarted : {R S F T : Type 0} → (S → Option (List ℕ)) → (T → Option (List ℕ)) → Start S → Tally T → Tally T → RunFailure R S F → Type 0
IsUnstarted remaining contents (start.Folder old_run) old new (failure.Start name lost) = (name ≡ old_run.name) × IsBaseUnmade remaining contents old_run.folder old_run.accepts_damage old new lost
IsUnstarted remaining contents other old new why = ⊥

-- how far a run has come: nothing was begun; it has nothing to start from, for this reason; or the setting with which its store was
-- to be opened
pub data Beginning (R S F : Type 0) : Type 0 where
  NotBegun : Beginning R S F
  Unstarted : (why : RunFailure R S F) → Beginning R S F
  Begun : (st : Setting) → Beginning R S F

-- A run has come this far, and this was reported until then: the damage of the folder that it starts from, once it has begun or was
-- refused for the damage.
abbrev pub RunBegins : {R S F T : Type 0} → (S → Option (List ℕ)) → (T → Option (List ℕ)) → Origin S → Tally T → Tally T → Beginning R S F → Type 0
RunBegins remaining contents origin old new NotBegun = new ≡ old
RunBegins remaining contents origin old new (Unstarted why) = IsUnstarted remaining contents origin.start old new why
RunBegins remaining contents origin old new (Begun st) = (base : BaseFile) × IsRunBase remaining contents origin.start old new base × (st ≡ run_setting base origin.capacity)

-- The workload was run over a store of this setting, in one legal history of it: its clients have run, this many transactions were
-- committed and this many given up; the result is that of some files, which have just the points from 1 to the last one that was
-- asked for and are those that the log gives their points; and if there is a folder, it has the files of the run.
pub record IsWorkloadRun {D : Type 0} (holds : D → FileName → List ℕ → Type 0) (st : Setting) (workload : Workload) (there : Bool) (left : Option D) (outcome : RunReport) : Type 0 where
  pub history : History
  pub legal : IsLegalHistory st history
  pub clients_ran : HaveRunBy st history workload.clients outcome.given_up
  pub commits_are : outcome.commits ≡ commits_in (log_of history)
  pub points_are : outcome.points ≡ workload.points
  pub files : List File
  pub cover : HaveJustTo outcome.points files
  pub legacy : IsLegacy (base_of st) (log_of history) files outcome.left
  pub folder_has : LeavesFiles holds (base_of st) (log_of history) outcome.points there left

-- the file is read as this; said if its bytes are known
abbrev pub IsWorkloadReadAs : {R : Type 0} → (R → Option (List ℕ)) → Result R Refusal → WorkloadReading → Type 0
IsWorkloadReadAs remaining opened worth = IfOk opened (λ reader. IfSome (remaining reader) (λ text. reading_of text ≡ worth))

-- if there is a folder, it has a maker of files
abbrev pub IsUsable : {D : Type 0} → Option (RunFolder D) → Type 0
IsUsable folder = IfSome folder (λ f. IsOk f.files)

-- its value, if it is one
abbrev pub ok_of : {D : Type 0} → Result D Unusable → Option D
ok_of (Ok files) = Some files
ok_of (Err why) = None

-- the maker of the folder's files, if there is a folder, and it has one
abbrev pub maker_of : {D : Type 0} → Option (RunFolder D) → Option D
maker_of None = None
maker_of (Some folder) = ok_of folder.files

-- there is a folder of this name, and this prevents files from being made there
abbrev pub IsUnusable : {R S F D : Type 0} → Option (RunFolder D) → RunFailure R S F → Type 0
IsUnusable folder (failure.Folder name why) = MatchOption folder ⊥ (λ f. (name ≡ f.name) × (f.files ≡ Err why))
IsUnusable folder other = ⊥

-- the file holds a workload that can be run
abbrev pub CanRun : {R : Type 0} → (R → Option (List ℕ)) → Result R Refusal → Type 0
CanRun remaining opened = IsOk opened × ((workload : Workload) × IsWorkloadReadAs remaining opened (reading.Runs workload))

-- The workload of the file was run, if the folder is usable, over a store with which the run has begun; and this fault has ended it.
abbrev pub RunHasFailed : {R S F D : Type 0} → (FileName → Refusal → Type 0) → (R → Option (List ℕ)) → Result R Refusal → Option (RunFolder D) → (Beginning R S F → Type 0) → ThreadsFault F → Type 0
RunHasFailed refuses remaining opened folder begins why = IsOk opened × IsUsable folder
    × ((workload : Workload) × IsWorkloadReadAs remaining opened (reading.Runs workload)
    × ((st : Setting) × begins (Begun st) × EndsRun refuses st workload (is_some folder) why))

-- This is the output of the workload of the file, and the folder that is left: of a bad line, before anything is begun; otherwise
-- the workload was run, of a setting with which it has begun, and only if the folder is usable.
abbrev pub IsAnswer : {R S F D : Type 0} → (R → Option (List ℕ)) → (D → FileName → List ℕ → Type 0) → Result R Refusal → Option (RunFolder D) → (Beginning R S F → Type 0) → Option D → Printed → Type 0
IsAnswer remaining holds opened folder begins left (printed.BadLine line) = IsWorkloadReadAs remaining opened (reading.BadLine line) × begins NotBegun
IsAnswer remaining holds opened folder begins left (printed.Whole outcome) = IsUsable folder
    × ((workload : Workload) × IsWorkloadReadAs remaining opened (reading.Runs workload)
    × ((st : Setting) × begins (Begun st) × IsWorkloadRun holds st workload (is_some folder) left outcome))

-- the output of the workload of the file went out, all of it, and this is its status, and the folder that is left
abbrev pub IsOutputWritten : {R S F D T : Type 0} → (R → Option (List ℕ)) → (D → FileName → List ℕ → Type 0) → (T → Option (List ℕ)) → Result R Refusal → Option (RunFolder D) → (Beginning R S F → Type 0) → Tally T → Tally T
    → Option D → ℕ → Type 0
IsOutputWritten remaining holds contents opened folder begins old new left status = (some : Printed) × IsAnswer remaining holds opened folder begins left some × (status ≡ run_status some)
    × Appends (contents (inner_of old)) (contents (inner_of new)) (printed_text some) × (failures_of new ≡ failures_of old)

-- Why nothing is printed: if the file wasn't opened, the reason for that; if it was, that it couldn't be read, or that an
-- allocation failed; if its workload can be run, and the folder can't be used, the reason for this; if it can be used, and there is
-- nothing to start from, that; and otherwise the fault that has ended the run.
abbrev pub IsRunUnanswered : {R S F D : Type 0} → (FileName → Refusal → Type 0) → (R → Option (List ℕ)) → Result R Refusal → Option (RunFolder D) → (Beginning R S F → Type 0) → RunFailure R S F → Type 0
IsRunUnanswered refuses remaining opened folder begins (failure.Unread why) = IsUnread opened why × begins NotBegun
IsRunUnanswered refuses remaining opened folder begins (failure.Run why) = RunHasFailed refuses remaining opened folder begins why
IsRunUnanswered {R} {S} {F} refuses remaining opened folder begins (failure.Folder name why) = CanRun remaining opened × IsUnusable {R = R} {S = S} {F = F} folder (failure.Folder name why) × begins NotBegun
IsRunUnanswered refuses remaining opened folder begins (failure.Start name why) = CanRun remaining opened × IsUsable folder × begins (Unstarted (failure.Start name why))
IsRunUnanswered refuses remaining opened folder begins failure.Output = ⊥

-- Why not all was printed: the output failed, which was counted, and a beginning of it went out; or there is nothing to print.
abbrev pub IsCauseOfUnprinted : {R S F D T : Type 0} → (FileName → Refusal → Type 0) → (R → Option (List ℕ)) → (D → FileName → List ℕ → Type 0) → (T → Option (List ℕ)) → Result R Refusal → Option (RunFolder D) → (Beginning R S F → Type 0) → Tally T → Tally T
    → RunFailure R S F → Type 0
IsCauseOfUnprinted {R} {S} {F} {D} refuses remaining holds contents opened folder begins old new failure.Output = HasRisen (failures_of old) (failures_of new)
    × ((left : Option D) × (some : Printed) × IsAnswer remaining holds opened folder begins left some × AppendsBeginning (contents (inner_of old)) (contents (inner_of new)) (printed_text some))
IsCauseOfUnprinted refuses remaining holds contents opened folder begins old new other = (new ≡ old) × IsRunUnanswered refuses remaining opened folder begins other

-- the report of a failure, if the workload has this name; nothing if the output failed
abbrev pub IsRunTold : {R S F T : Type 0} → (T → Option (List ℕ)) → Tally T → Tally T → List ℕ → RunFailure R S F → Type 0
IsRunTold contents old new name (failure.Unread why) = TellsOf contents old new name (refusal_of why)
IsRunTold contents old new name (failure.Run (fault.Refused why)) = TellsOf contents old new name why
IsRunTold contents old new name (failure.Run (fault.Unmade file why)) = TellsOf contents old new (name_of_file file) why
IsRunTold contents old new name (failure.Run (fault.Failed file)) = TellsOf contents old new name Device
IsRunTold contents old new name (failure.Run fault.NoThread) = recoveries.TellsReason contents old new name (codes "NoThread")
IsRunTold contents old new name (failure.Folder folder unusable.NotEmpty) = recoveries.TellsReason contents old new folder.items (codes "NotEmpty")
IsRunTold contents old new name (failure.Folder folder (unusable.Unlisted why)) = TellsOf contents old new folder.items why
IsRunTold contents old new name (failure.Start folder lost) = recoveries.IsRecoveryTold contents old new folder.items lost
IsRunTold contents old new name failure.Output = new ≡ old

-- the cause is returned, which is one after the reports until then, and was reported after them
abbrev pub IsFailed : {R S F T : Type 0} → (T → Option (List ℕ)) → List ℕ → Tally T → Option (RunFailure R S F) → (Tally T → RunFailure R S F → Type 0) → Type 0
IsFailed {R} {S} {F} {T} contents name new handed cause = MatchOption handed ⊥ (λ why. (between : Tally T) × cause between why × IsRunTold contents between new name why)

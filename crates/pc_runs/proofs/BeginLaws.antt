-- A workload that can be run, and why nothing is printed of it.
use Rattle.std.proofs.Common.{◌≡◌, ℕ, List, Option, Some, None, Result, Ok, Err, sym, ◌∙◌}
use Rattle.std.specs.Prelude.{IfOk, IfSome, IsOk, is_some}
use Rattle.pc_types.specs.declared.refusal.Refusal.{Refusal}
use Rattle.pc_io.specs.declared.tally.Tally.{Tally}
use Rattle.pc_model.specs.Replies.{Setting}
use Rattle.pc_jobs.specs.Workloads.{reading_of}
use Rattle.pc_jobs.specs.declared.works.Workload.{Workload}
use Rattle.pc_jobs.specs.declared.workloads.WorkloadReading.{WorkloadReading}
use Rattle.pc_jobs.specs.declared.workloads.WorkloadReading.TheVariants as reading
use Rattle.pc_texts.specs.declared.file_names.FileName.{FileName}
use Rattle.pc_threads.specs.declared.fault.ThreadsFault.{ThreadsFault}
use Rattle.pc_runs.specs.declared.failure.RunFailure.{RunFailure}
use Rattle.pc_runs.specs.declared.failure.RunFailure.TheVariants as failure
use Rattle.pc_runs.specs.declared.files.RunFolder.{RunFolder}
use Rattle.pc_runs.specs.declared.origin.Start.{Start}
use Rattle.pc_runs.specs.declared.origin.Start.TheVariants as start
use Rattle.pc_runs.specs.Faults.{EndsRun}
use Rattle.pc_runs.specs.Runs.{Beginning, Begun, Unstarted, CanRun, IsWorkloadReadAs, IsRunUnanswered, IsUnstarted, IsUsable}

if_some : {X : Type 0} (o : Option X) (P Q : X → Type 0) → ((x : X) → P x → Q x) → IfSome o P → IfSome o Q
if_some None P Q on has = tt
if_some (Some x) P Q on has = on x has

-- the file is read as the text that was read of it
pub read_as : {R : Type 0} (remaining : R → Option (List ℕ)) (opened : Result R Refusal) (bytes text : List ℕ) (some worth : WorkloadReading)
    → IfOk opened (λ reader. IfSome (remaining reader) (λ script. bytes ≡ script)) → text ≡ bytes → some ≡ reading_of text → some ≡ worth → IsWorkloadReadAs remaining opened worth
read_as remaining (Err why) bytes text some worth script same reads is = tt
read_as remaining (Ok reader) bytes text some worth script same reads is =
    if_some (remaining reader) (λ (held : List ℕ). bytes ≡ held) (λ (held : List ℕ). reading_of held ≡ worth)
    (λ held has. (λ k. reading_of (sym (same ∙ has) k)) ∙ (sym reads ∙ is)) script

module _ {R S F D : Type 0} (refuses : FileName → Refusal → Type 0) (remaining : R → Option (List ℕ)) (folder : Option (RunFolder D)) (begins : Beginning R S F → Type 0) where
  -- the run has begun, and failed
  pub run_failed : (opened : Result R Refusal) (workload : Workload) (why : ThreadsFault F) (st : Setting) → IsOk opened → IsWorkloadReadAs remaining opened (reading.Runs workload) → IsUsable folder → begins (Begun st)
      → EndsRun refuses st workload (is_some folder) why → IsRunUnanswered refuses remaining opened folder begins (failure.Run why)
  run_failed opened workload why st there read usable begun ends = (there, usable, (workload, read, (st, begun, ends)))

  -- it has nothing to start from
  pub not_started : {T : Type 0} (theirs : S → Option (List ℕ)) (contents : T → Option (List ℕ)) (opened : Result R Refusal) (first : Start S) (old new : Tally T) (why : RunFailure R S F) → CanRun remaining opened → IsUsable folder
      → IsUnstarted theirs contents first old new why → begins (Unstarted why) → IsRunUnanswered refuses remaining opened folder begins why
  not_started theirs contents opened (start.Folder old_run) old new (failure.Start name lost) can usable is begun = (can, usable, begun)
  not_started theirs contents opened (start.Folder old_run) old new (failure.Unread why) can usable is begun = absurd is
  not_started theirs contents opened (start.Folder old_run) old new (failure.Run why) can usable is begun = absurd is
  not_started theirs contents opened (start.Folder old_run) old new (failure.Folder name why) can usable is begun = absurd is
  not_started theirs contents opened (start.Folder old_run) old new failure.Output can usable is begun = absurd is
  not_started theirs contents opened (start.Empty run) old new (failure.Start name lost) can usable is begun = absurd is
  not_started theirs contents opened (start.Empty run) old new (failure.Unread why) can usable is begun = absurd is
  not_started theirs contents opened (start.Empty run) old new (failure.Run why) can usable is begun = absurd is
  not_started theirs contents opened (start.Empty run) old new (failure.Folder name why) can usable is begun = absurd is
  not_started theirs contents opened (start.Empty run) old new failure.Output can usable is begun = absurd is

-- What a run leaves in a folder in memory.
use Rattle.std.specs.Prelude.{◌≡◌, ℕ, List, [], Option, true}
use Rattle.pc_model.specs.Database.{database_of}
use Rattle.pc_model.specs.Replies.{Setting}
use Rattle.pc_jobs.specs.Workloads.{reading_of}
use Rattle.pc_jobs.specs.declared.works.Workload.{Workload}
use Rattle.pc_jobs.specs.declared.workloads.WorkloadReading.TheVariants.{Runs}
use Rattle.pc_outcomes.specs.declared.run_report.RunReport.{RunReport}
use Rattle.pc_texts.specs.declared.file_names.FileName.{FileName}
use Rattle.pc_runs.specs.Runs.{IsWorkloadRun, run_setting}
use Rattle.test_folders.specs.declared.memory.MemoryFolder.{MemoryFolder}
use Rattle.test_folders.specs.Texts.{HasText}

-- the folder has this text under this name
abbrev pub holds : MemoryFolder → FileName → List ℕ → Type 0
holds folder name text = HasText folder.files.items name text

-- the store of run 1, which has room for a hundred keys, and starts without any
abbrev pub small_store : Setting
small_store = run_setting (record { run = 1; point = 0; pairs = database_of [] }) 100

-- The text is a workload, which was run over such a store, and the folder has the files of the run.
abbrev pub HasLeft : List ℕ → Option MemoryFolder → Type 0
HasLeft text left = (workload : Workload) × (outcome : RunReport) × (reading_of text ≡ Runs workload) × IsWorkloadRun holds small_store workload true left outcome

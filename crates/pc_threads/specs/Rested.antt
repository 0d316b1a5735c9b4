-- The results of the threads of a run, but for the logger.
use Rattle.std.specs.Prelude.{ℕ, List, Option}
use Rattle.pc_model.specs.Replies.{Setting}
use Rattle.pc_jobs.specs.declared.works.Client.{Client}
use Rattle.pc_texts.specs.declared.file_names.FileName.{FileName}
use Rattle.pc_workers.specs.Checkpointing.{HasCycled}
use Rattle.pc_workers.specs.Covering.{HaveOnlyTo}
use Rattle.pc_threads.specs.Clients.{HaveWorked, clients_in}
use Rattle.pc_threads.specs.Files.{HasWritten}
use Rattle.pc_threads.specs.declared.points.Checkpointer.{Checkpointer}
use Rattle.pc_threads.specs.declared.threads.Rested.{Rested}
use Rattle.pc_threads.specs.declared.threads.Worked.{Worked}

-- The result of workers and the checkpointer, if this many points are due: the clients of all workers have worked, each as its
-- session; the checkpointer has gone through a whole cycle for each point, from its seat on; and the files of all these points were
-- written to its folder, if none was before.
pub record IsLeftByWorkers {N D : Type 0} (holds : D → FileName → List ℕ → Type 0) (st : Setting) (points : ℕ) (workers : List (List Client)) (checkpointer : Checkpointer N D) (left : Worked N D) : Type 0 where
  pub clients : HaveWorked st (clients_in workers) left.ran.given_up left.ran.sessions.items
  pub cycles : HasCycled st points checkpointer.at_store left.seat
  pub files : (first : Option D) → HasWritten holds 0 first checkpointer.folder checkpointer.written.items → HasWritten holds points first left.folder left.written.items

-- The result of these and the collapsers: besides, the collapsers hold no tickets of other points.
pub record IsLeftByHands {N D : Type 0} (holds : D → FileName → List ℕ → Type 0) (st : Setting) (points : ℕ) (workers : List (List Client)) (checkpointer : Checkpointer N D) (left : Rested N D) : Type 0 where
  pub worked : IsLeftByWorkers holds st points workers checkpointer left.worked
  pub held : HaveOnlyTo points left.held.items

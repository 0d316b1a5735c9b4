-- Why the threads of a run stop if its points are not all taken.
use Rattle.std.proofs.Common.{ℕ, ◌≤◌, Bool, List, arith}
use Rattle.std.specs.Prelude.{◌||◌}
use Rattle.pc_types.specs.declared.refusal.Refusal.{Refusal}
use Rattle.pc_texts.specs.declared.file_names.FileName.{FileName}
use Rattle.pc_jobs.specs.declared.works.Client.{Client}
use Rattle.pc_model.specs.Replies.{Setting}
use Rattle.pc_threads.specs.Clients.{HaveWorked, transactions_in}
use Rattle.pc_threads.specs.Faults.{PointsHaveStopped, ThreadsHaveStopped, stop_of}
use Rattle.pc_threads.specs.declared.clients.Ran.{Ran}
use Rattle.pc_threads.specs.declared.points.PointsFault.{PointsFault}
use Rattle.pc_threads.specs.declared.points.PointsFault.TheVariants as points
use Rattle.pc_threads.proofs.PointLaws.{wider_log}
use Rattle.pc_threads.proofs.StopLaws.{more_end, right_true}

-- once the clients have run
pub points_stop : {N T : Type 0} (refuses : FileName → Refusal → Type 0) (st : Setting) (has_log there : Bool) (clients : List Client) (some all : ℕ) (fault : PointsFault N T) (ran : Ran N) → some ≤ all → PointsHaveStopped refuses st there some fault → HaveWorked st clients ran.given_up ran.sessions.items
    → ThreadsHaveStopped refuses st (has_log || there) clients all (stop_of fault ran)
points_stop refuses st has_log there clients some all (points.LogFull full) ran low stopped worked = (wider_log st some all full low stopped, worked)
points_stop refuses st has_log there clients some all (points.Other why) ran low end worked = more_end refuses there (has_log || there) 0 (transactions_in clients) some all why (right_true has_log there) (omega arith) low end

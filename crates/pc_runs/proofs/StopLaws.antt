-- Why the threads over a store have stopped, with its idle sessions.
use Rattle.std.proofs.Common.{ℕ, Bool, List, sym, subst}
use Rattle.pc_types.specs.declared.refusal.Refusal.{Refusal}
use Rattle.pc_texts.specs.declared.file_names.FileName.{FileName}
use Rattle.pc_jobs.specs.declared.works.Client.{Client}
use Rattle.pc_model.specs.Replies.{Setting}
use Rattle.pc_shared.specs.Sitters.{Sitter}
use Rattle.pc_threads.specs.Clients.{HaveWorked, transactions_in}
use Rattle.pc_threads.specs.Faults.{HasFullLog, IsThreadsEnd, ThreadsHaveStopped}
use Rattle.pc_threads.specs.declared.stop.ThreadsStop.{ThreadsStop}
use Rattle.pc_threads.specs.declared.stop.ThreadsStop.TheVariants as stop
use Rattle.pc_runs.specs.Faults.{IsStopWithIdle, StoreHasStopped}

module _ {N T : Type 0} (refuses : FileName → Refusal → Type 0) (st : Setting) (writes : Bool) (clients : List Client) (idle : List Sitter) (points : ℕ) where
  pub idle_stopped : (given later : ThreadsStop N T) → IsStopWithIdle given idle later → ThreadsHaveStopped refuses st writes clients points given → StoreHasStopped refuses st writes idle clients points later
  idle_stopped (stop.LogFull full ran) (stop.LogFull same all) (is, count, sessions) (has, worked) =
      (subst (HasFullLog st points) (sym is) has, (ran.sessions.items, sessions, subst (λ (n : ℕ). HaveWorked st clients n ran.sessions.items) (sym count) worked))
  idle_stopped (stop.LogFull full ran) (stop.Other why) is stopped = subst (IsThreadsEnd refuses writes (transactions_in clients) points) (sym is) tt
  idle_stopped (stop.LogFull full ran) stop.LogEnded is stopped = absurd is
  idle_stopped stop.LogEnded later is there = subst (StoreHasStopped refuses st writes idle clients points) (sym is) there
  idle_stopped (stop.Other why) later is end = subst (StoreHasStopped refuses st writes idle clients points) (sym is) end

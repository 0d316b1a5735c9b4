-- The faults that end a run that has begun.
use Rattle.std.specs.Prelude.{◌≡◌, ◌⊎◌, ◌≤◌, ◌<◌, ◌^◌, ◌+◌, ◌*◌, ◌++◌, ⊤, ℕ, Bool, List, IsTrue}
use Rattle.pc_types.specs.declared.limits.TheConstants.{MOST_LOG_ENTRIES, MOST_POINTS}
use Rattle.pc_types.specs.declared.refusal.Refusal.{Refusal}
use Rattle.pc_types.specs.declared.refusal.Refusal.TheVariants as refusal
use Rattle.pc_model.specs.History.{History}
use Rattle.pc_model.specs.Maps.{len}
use Rattle.pc_model.specs.Replies.{Setting}
use Rattle.pc_jobs.specs.declared.works.Client.{Client}
use Rattle.pc_jobs.specs.declared.works.Workload.{Workload}
use Rattle.pc_texts.specs.declared.file_names.FileName.{FileName}
use Rattle.pc_shared.specs.Sitters.{Sitter, IsEndOf}
use Rattle.pc_threads.specs.Clients.{HaveWorked, transactions_in}
use Rattle.pc_threads.specs.Faults.{HasFullLog, IsThreadsEnd}
use Rattle.pc_threads.specs.declared.fault.ThreadsFault.{ThreadsFault}
use Rattle.pc_threads.specs.declared.fault.ThreadsFault.TheVariants as fault
use Rattle.pc_threads.specs.declared.points.TheConstants.{TOKENS}
use Rattle.pc_threads.specs.declared.stop.ThreadsStop.{ThreadsStop}
use Rattle.pc_threads.specs.declared.stop.ThreadsStop.TheVariants as stop

-- Why a run of the workload is refused, over a store of this setting:
-- * an allocation failed;
-- * the store has no room for all pairs of its base, or more transactions were given up than 64 bits can count;
-- * there are too many points;
-- * there are points, and the log has no place left: it has at most an entry for each transaction, and five for each point.
abbrev pub IsRunRefused : Setting → Workload → Refusal → Type 0
IsRunRefused st workload refusal.OutOfMemory = ⊤
IsRunRefused st workload refusal.Full = (st.capacity < len st.base) ⊎ (2 ^ 64 ≤ transactions_in workload.clients)
IsRunRefused st workload refusal.PointsFull = MOST_POINTS < workload.points
IsRunRefused st workload refusal.LogFull = MOST_LOG_ENTRIES ≤ transactions_in workload.clients + TOKENS * workload.points
IsRunRefused st workload other = ⊥

-- The fault ends such a run, if there is a folder or not: it is refused for one of these; a file can't be made, and the folder refuses
-- it for this reason; the device failed in a call of a file, which is returned and has counted that; or a thread can't be started.
abbrev pub EndsRun : {T : Type 0} → (FileName → Refusal → Type 0) → Setting → Workload → Bool → ThreadsFault T → Type 0
EndsRun refuses st workload there (fault.Refused why) = IsRunRefused st workload why
EndsRun refuses st workload there (fault.Unmade file why) = IsTrue there × refuses file why
EndsRun refuses st workload there (fault.Failed file) = IsTrue there × (1 ≤ file.failures)
EndsRun refuses st workload there fault.NoThread = ⊤

-- the stop of the threads with the idle sessions before those of the clients, or a failed allocation
abbrev pub IsStopWithIdle : {N T : Type 0} → ThreadsStop N T → List Sitter → ThreadsStop N T → Type 0
IsStopWithIdle (stop.LogFull full ran) idle (stop.LogFull same all) = (same ≡ full) × (all.given_up ≡ ran.given_up) × (all.sessions.items ≡ idle ++ ran.sessions.items)
IsStopWithIdle (stop.LogFull full ran) idle (stop.Other why) = why ≡ fault.Refused refusal.OutOfMemory
IsStopWithIdle (stop.LogFull full ran) idle stop.LogEnded = ⊥
IsStopWithIdle stop.LogEnded idle later = later ≡ stop.LogEnded
IsStopWithIdle (stop.Other why) idle later = later ≡ stop.Other why

-- Why the threads over a store with these idle sessions have stopped: the log has no place left, and with the idle sessions are those
-- of the clients, which have run; a client has found the log's end before its own; or another fault.
abbrev pub StoreHasStopped : {N T : Type 0} → (FileName → Refusal → Type 0) → Setting → Bool → List Sitter → List Client → ℕ → ThreadsStop N T → Type 0
StoreHasStopped refuses st writes idle clients points (stop.LogFull full all) = HasFullLog st points full × ((ran : List Sitter) × (all.sessions.items ≡ idle ++ ran) × HaveWorked st clients all.given_up ran)
StoreHasStopped refuses st writes idle clients points stop.LogEnded = IsTrue writes
StoreHasStopped refuses st writes idle clients points (stop.Other why) = IsThreadsEnd refuses writes (transactions_in clients) points why

-- The fault that ends the run for this stop, with the end of the store if the log has no place left. That a client has found the log's
-- end before its own, though no file was lost, counts as a failed allocation.
abbrev pub IsFaultOfStop : {N T : Type 0} → Setting → ThreadsStop N T → ThreadsFault T → Type 0
IsFaultOfStop st (stop.LogFull full all) why = (why ≡ fault.Refused refusal.LogFull) × ((history : History) × IsEndOf st all.sessions.items full.seat full.seen history)
IsFaultOfStop st stop.LogEnded why = why ≡ fault.Refused refusal.OutOfMemory
IsFaultOfStop st (stop.Other same) why = why ≡ same

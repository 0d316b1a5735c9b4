-- The faults that end a run before its end.
use Rattle.std.specs.Prelude.{◌≡◌, ◌≢◌, ◌⊎◌, ◌≤◌, ◌<◌, ◌^◌, ◌*◌, ⊤, ℕ, Bool, IsTrue, List, Option, Some, None, length}
use Rattle.pc_io.specs.Counted.{HasRisen}
use Rattle.pc_types.specs.declared.limits.TheConstants.{MOST_POINTS}
use Rattle.pc_types.specs.declared.refusal.Refusal.{Refusal}
use Rattle.pc_types.specs.declared.refusal.Refusal.TheVariants as refusal
use Rattle.pc_io.specs.declared.tally.Tally.{Tally}
use Rattle.pc_model.specs.History.{History}
use Rattle.pc_model.specs.Replies.{Setting, IsLegalHistory, log_is_full}
use Rattle.pc_jobs.specs.declared.works.Client.{Client}
use Rattle.pc_latch.specs.Cycles.{phases_entered}
use Rattle.pc_workers.specs.declared.checkpointing.CheckpointFault.{CheckpointFault}
use Rattle.pc_texts.specs.declared.file_names.FileName.{FileName}
use Rattle.pc_threads.specs.declared.fault.ThreadsFault.{ThreadsFault}
use Rattle.pc_threads.specs.declared.fault.ThreadsFault.TheVariants as fault
use Rattle.pc_threads.specs.declared.files.FileFault.{FileFault}
use Rattle.pc_threads.specs.declared.files.FileFault.TheVariants as lost
use Rattle.pc_threads.specs.Clients.{HaveWorked, transactions_in}
use Rattle.pc_threads.specs.declared.clients.Ran.{Ran}
use Rattle.pc_threads.specs.declared.points.FullLog.{FullLog}
use Rattle.pc_threads.specs.declared.points.PointsFault.{PointsFault}
use Rattle.pc_threads.specs.declared.points.PointsFault.TheVariants as points
use Rattle.pc_threads.specs.declared.points.TheConstants.{TOKENS}
use Rattle.pc_threads.specs.declared.stop.ThreadsStop.{ThreadsStop}
use Rattle.pc_threads.specs.declared.stop.ThreadsStop.TheVariants as stop
use Rattle.pc_threads.specs.declared.threads.LogFault.{LogFault}

-- The file of this name can't be made, and the folder refuses it for this reason; or the device failed in a call of the file, which
-- is returned: more of its calls have failed than these.
abbrev pub IsFileLost : {T : Type 0} → (FileName → Refusal → Type 0) → FileName → ℕ → FileFault T → Type 0
IsFileLost refuses name failures (lost.Unmade file why) = (file ≡ name) × refuses name why
IsFileLost refuses name failures (lost.Failed file) = HasRisen failures file.failures

-- the fault of the run that a lost file is
abbrev pub lost_file_fault : {T : Type 0} → FileFault T → ThreadsFault T
lost_file_fault (lost.Unmade file why) = fault.Unmade file why
lost_file_fault (lost.Failed file) = fault.Failed file

-- that of a logger that has stopped for this reason, and has returned its file
abbrev pub lost_log_fault : {T : Type 0} → Refusal → Tally T → ThreadsFault T
lost_log_fault refusal.Device out = fault.Failed out
lost_log_fault why out = fault.Refused why

-- The logger of this file, if there is one, has stopped before the end, and returns the file: an allocation failed, or the device
-- failed in a call of the file, which was counted.
abbrev pub LogHasStopped : {T : Type 0} → Option (Tally T) → LogFault T → Type 0
LogHasStopped None stop = ⊥
LogHasStopped (Some log) stop = (stop.why ≡ refusal.OutOfMemory) ⊎ ((stop.why ≡ refusal.Device) × HasRisen log.failures stop.out.failures)

-- Why one of the threads of a run has stopped, if there are this many transactions, and this many points are due, but for a log without
-- a place left and for files: an allocation failed; more transactions were given up than 64 bits can count; or more points are due
-- than there can be.
abbrev pub IsStop : ℕ → ℕ → Refusal → Type 0
IsStop transactions points refusal.OutOfMemory = ⊤
IsStop transactions points refusal.Full = 2 ^ 64 ≤ transactions
IsStop transactions points refusal.PointsFull = MOST_POINTS < points
IsStop transactions points other = ⊥

-- Why workers have stopped, if there is a log or not: one of these, or one of them has found the end of the log before its own.
abbrev pub IsWorkersStop : Bool → ℕ → Refusal → Type 0
IsWorkersStop has_log transactions why = ((why ≡ refusal.Device) × IsTrue has_log) ⊎ IsStop transactions 0 why

-- The fault of the run: besides those, if files are written, a file can't be made, and the folder refuses it for this reason, or the
-- device failed in a call of a file, which is returned and has counted that; or a thread can't be started.
abbrev pub IsThreadsEnd : {T : Type 0} → (FileName → Refusal → Type 0) → Bool → ℕ → ℕ → ThreadsFault T → Type 0
IsThreadsEnd refuses writes transactions points (fault.Refused why) = IsStop transactions points why
IsThreadsEnd refuses writes transactions points (fault.Unmade file why) = IsTrue writes × refuses file why
IsThreadsEnd refuses writes transactions points (fault.Failed file) = IsTrue writes × (1 ≤ file.failures)
IsThreadsEnd refuses writes transactions points fault.NoThread = ⊤

-- The log has no place left while the points up to this one were taken: a witness has seen a legal history whose log has none, and
-- the checkpointer has entered at most the phases of this many points' cycles.
pub record HasFullLog {N : Type 0} (st : Setting) (points : ℕ) (full : FullLog N) : Type 0 where
  pub legal : IsLegalHistory st full.seen
  pub is_full : IsTrue (log_is_full full.seen)
  pub phases : length (phases_entered full.seat) ≤ TOKENS * points

-- the fault of the points, after this refusal to the checkpointer of a seat that has seen this history
abbrev pub IsPointsFaultOf : {N T : Type 0} → CheckpointFault N → History → PointsFault N T → Type 0
IsPointsFaultOf stop seat (points.LogFull full) = (stop.why ≡ refusal.LogFull) × (full.seat ≡ seat) × (full.seen ≡ stop.seen)
IsPointsFaultOf stop seat (points.Other why) = (stop.why ≢ refusal.LogFull) × (why ≡ fault.Refused stop.why)

-- Why the points up to this one are not all taken, if files are written or not: the log has no place left, or one of the faults above.
abbrev pub PointsHaveStopped : {N T : Type 0} → (FileName → Refusal → Type 0) → Setting → Bool → ℕ → PointsFault N T → Type 0
PointsHaveStopped refuses st writes last (points.LogFull full) = HasFullLog st last full
PointsHaveStopped refuses st writes last (points.Other why) = IsThreadsEnd refuses writes 0 last why

-- the stop of the threads that a stop of workers is
abbrev pub stop_of_workers : {N T : Type 0} → Refusal → ThreadsStop N T
stop_of_workers refusal.Device = stop.LogEnded
stop_of_workers why = stop.Other (fault.Refused why)

-- the stop of the threads that a fault of the points is, once these clients have run
abbrev pub stop_of : {N T : Type 0} → PointsFault N T → Ran N → ThreadsStop N T
stop_of (points.LogFull full) ran = stop.LogFull full ran
stop_of (points.Other why) ran = stop.Other why

-- Why the threads of a run with these clients and this many points have stopped before its end: the log has no place left, and the
-- clients have run, each as its session; a client has found the end of the log, which is written, before its own; or one of the
-- faults above.
abbrev pub ThreadsHaveStopped : {N T : Type 0} → (FileName → Refusal → Type 0) → Setting → Bool → List Client → ℕ → ThreadsStop N T → Type 0
ThreadsHaveStopped refuses st writes clients last (stop.LogFull full ran) = HasFullLog st last full × HaveWorked st clients ran.given_up ran.sessions.items
ThreadsHaveStopped refuses st writes clients last stop.LogEnded = IsTrue writes
ThreadsHaveStopped refuses st writes clients last (stop.Other why) = IsThreadsEnd refuses writes (transactions_in clients) last why

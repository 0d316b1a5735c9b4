-- Why the points of a run are not all taken.
use Rattle.std.proofs.Common.{◌≡◌, ◌≢◌, ℕ, ◌≤◌, ◌*◌, Bool, length, sym, subst, arith}
use Rattle.std.specs.Prelude.{IsTrue}
use Rattle.pc_types.specs.declared.refusal.Refusal.{Refusal}
use Rattle.pc_types.specs.declared.refusal.Refusal.TheVariants as why
use Rattle.pc_texts.specs.declared.file_names.FileName.{FileName}
use Rattle.pc_latch.specs.Cycles.{phases_entered}
use Rattle.pc_model.specs.History.{History}
use Rattle.pc_model.specs.Replies.{Setting, IsLegalHistory, log_is_full}
use Rattle.pc_workers.specs.Checkpointing.{Shows}
use Rattle.pc_workers.specs.declared.checkpointing.CheckpointFault.{CheckpointFault}
use Rattle.pc_threads.specs.Faults.{HasFullLog, IsPointsFaultOf, IsStop, IsThreadsEnd, PointsHaveStopped}
use Rattle.pc_threads.specs.declared.fault.ThreadsFault.{ThreadsFault}
use Rattle.pc_threads.specs.declared.points.FullLog.{FullLog}
use Rattle.pc_threads.specs.declared.points.PointsFault.{PointsFault}
use Rattle.pc_threads.specs.declared.points.PointsFault.TheVariants as points
use Rattle.pc_threads.specs.declared.points.TheConstants.{TOKENS}
use Rattle.pc_threads.specs.Files.{RefusesNoMore}
use Rattle.pc_threads.proofs.StopLaws.{end_before, more_end}

-- after a refusal of the store
pub refused_stop : {N T : Type 0} (refuses : FileName → Refusal → Type 0) (st : Setting) (writes : Bool) (last : ℕ) (given : CheckpointFault N) (seat : History) (stop : PointsFault N T) → IsPointsFaultOf given seat stop → Shows st seat given.why given.seen → length (phases_entered seat) ≤ TOKENS * last
    → (given.why ≢ why.LogFull → IsStop 0 last given.why) → PointsHaveStopped refuses st writes last stop
refused_stop refuses st writes last given seat (points.LogFull full) (is, at, shown) shows few other = record {
  legal = subst (IsLegalHistory st) (sym shown) shows.legal;
  is_full = subst (λ (h : History). IsTrue (log_is_full h)) (sym shown) (shows.log is);
  phases = subst (λ (h : History). length (phases_entered h) ≤ TOKENS * last) (sym at) few;
}
refused_stop refuses st writes last given seat (points.Other why) (isnt, is) shows few other = subst (IsThreadsEnd refuses writes 0 last) (sym is) (other isnt)

-- another fault
pub other_stop : {N T : Type 0} (refuses : FileName → Refusal → Type 0) (st : Setting) (writes : Bool) (last : ℕ) (given : ThreadsFault T) (stop : PointsFault N T) → stop ≡ points.Other given → IsThreadsEnd refuses writes 0 last given → PointsHaveStopped refuses st writes last stop
other_stop refuses st writes last given stop is end = subst (PointsHaveStopped refuses st writes last) (sym is) end

-- a full log has the phases of more points too
pub wider_log : {N : Type 0} (st : Setting) (some all : ℕ) (full : FullLog N) → some ≤ all → HasFullLog st some full → HasFullLog st all full
wider_log st some all full low has = record { legal = has.legal; is_full = has.is_full; phases = omega (arith, low, has.phases) }

-- a cause that stops some of the points stops all of them
pub more_points : {N T : Type 0} (refuses : FileName → Refusal → Type 0) (st : Setting) (a b : Bool) (some all : ℕ) (stop : PointsFault N T) → (IsTrue a → IsTrue b) → some ≤ all → PointsHaveStopped refuses st a some stop → PointsHaveStopped refuses st b all stop
more_points refuses st a b some all (points.LogFull full) on low stopped = wider_log st some all full low stopped
more_points refuses st a b some all (points.Other why) on low stopped = more_end refuses a b 0 0 some all why on (omega arith) low stopped

-- a folder's refusal that stops the points is one of an earlier folder
pub points_before : {N T : Type 0} (old new : FileName → Refusal → Type 0) (st : Setting) (writes : Bool) (last : ℕ) (stop : PointsFault N T) → RefusesNoMore old new → PointsHaveStopped new st writes last stop → PointsHaveStopped old st writes last stop
points_before old new st writes last (points.LogFull full) no_more stopped = stopped
points_before old new st writes last (points.Other why) no_more stopped = end_before old new no_more writes 0 last why stopped

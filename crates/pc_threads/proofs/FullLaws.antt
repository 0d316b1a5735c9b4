-- Why the store refuses further points of a run.
use Rattle.std.proofs.Common.{◌≡◌, ◌≢◌, ℕ, zero, suc, ◌+◌, ◌*◌, ◌<◌, ◌≤◌, [], ap, refl, length, length-append, ◌∙◌, arith}
use Rattle.pc_types.specs.declared.limits.TheConstants.{MOST_FILES, MOST_POINTS}
use Rattle.pc_types.specs.declared.refusal.Refusal.{Refusal}
use Rattle.pc_types.specs.declared.refusal.Refusal.TheVariants as why
use Rattle.pc_model.specs.Files.{shelf}
use Rattle.pc_model.specs.History.{History, point_of}
use Rattle.pc_model.specs.Replies.{Setting}
use Rattle.pc_board.specs.Passes.{Pass}
use Rattle.pc_latch.specs.Cycles.{done_among, phases_entered}
use Rattle.pc_workers.specs.Checkpointing.{whole_cycle, whole_cycles, HasBrokenOff, HasCycled, IsFull}
use Rattle.pc_workers.proofs.BoardCalls.{done_append}
use Rattle.pc_workers.proofs.WholeCycles.{points_of_cycles}
use Rattle.pc_threads.specs.Faults.{IsStop}
use Rattle.pc_threads.specs.declared.points.TheConstants.{TOKENS}

-- the shelf has a file of each point that was taken, and there are fewer points than it has places
pub few_files : (st : Setting) (before point : ℕ) (old new : History) (earlier later : Pass) (given : Refusal) → before + 1 ≡ point → point ≤ MOST_POINTS → HasCycled st before [] old
    → HasBrokenOff st (whole_cycles (point_of old) 1) old new earlier later given → length (shelf st.run new) < MOST_FILES
few_files st before point old new earlier later given next few cycled broken =
    let was = points_of_cycles 0 before in
    let due = points_of_cycles (point_of old) 1 in
    let first = broken.first in
    let all = ap (λ phases. length (done_among phases)) first.1 ∙ due in
    let both = ap length (done_append broken.phases first.0) ∙ length-append (done_among broken.phases) (done_among first.0) in
    let old_files = cycled.shelved in
    let new_files = broken.reached.shelved in
    let places : MOST_FILES ≡ 65536 = refl in
    let points : MOST_POINTS ≡ 65535 = refl in
    omega (arith, was, all, both, old_files, new_files, next, few, places, points)

-- if the shelf has a place left
pub full_stops : (st : Setting) (seen shown : History) (transactions points last : ℕ) (given : Refusal) → last ≤ points → length (shelf st.run seen) < MOST_FILES → IsFull st seen shown last given → given ≢ why.LogFull
    → IsStop transactions points given
full_stops st seen shown transactions points last why.OutOfMemory low room full other = tt
full_stops st seen shown transactions points last why.LogFull low room full other = absurd (other refl)
full_stops st seen shown transactions points last why.ShelfFull low room full other = absurd (omega (arith, room, full))
full_stops st seen shown transactions points last why.PointsFull low room full other = omega (arith, low, full)
full_stops st seen shown transactions points last any low room full other = absurd full

-- the phases of this many cycles
cycle_phases : (point count : ℕ) → length (whole_cycles point count) ≡ 5 * count
cycle_phases point zero = refl
cycle_phases point (suc count) = let before = cycle_phases point count in omega (arith, before, length-append (whole_cycles point count) (whole_cycle (point + suc count)))

-- the checkpointer has entered at most the phases of the point's cycle since that of the one before
pub few_phases : (st : Setting) (before point : ℕ) (old new : History) (earlier later : Pass) (given : Refusal) → before + 1 ≡ point → HasCycled st before [] old → HasBrokenOff st (whole_cycles (point_of old) 1) old new earlier later given
    → length (phases_entered new) ≤ TOKENS * point
few_phases st before point old new earlier later given next cycled broken =
    let was = ap length cycled.entered ∙ cycle_phases 0 before in
    let due = ap length broken.first.1 ∙ cycle_phases (point_of old) 1 in
    let now = ap length broken.reached.entered in
    omega (arith, was, due, now, next, length-append (phases_entered old) broken.phases, length-append broken.phases broken.first.0)

-- The phases of a checkpoint's cycle, with how many transactions of each class are active, and the table of changes.
use Rattle.std.specs.Prelude.{◌≡◌, ℕ, ◌+◌, ◌-◌, ◌==◌, ◌≤◌, Bool, false, Option, Some, None, if◌then◌else◌}
use Rattle.pc_types.specs.declared.Phase.{Phase}
use Rattle.pc_types.specs.declared.Phase.TheVariants as phase
use Rattle.pc_types.specs.declared.Class.{Class}
use Rattle.pc_types.specs.declared.Class.TheVariants.{Before, During, After}
use Rattle.pc_types.specs.Phases.{same_phase}
use Rattle.pc_types.specs.declared.limits.TheConstants.{MOST_POINTS}
use Rattle.pc_phase.specs.declared.change.Change.{Change}
use Rattle.pc_phase.specs.declared.change.Change.TheVariants as change
use Rattle.pc_phase.specs.declared.change.Held.{Held}
use Rattle.pc_phase.specs.declared.change.Held.TheVariants.{WrongPhase, PointsFull, NotYet}

-- the phase, the last point that was begun, and how many transactions of each class are active
pub record Phases : Type 0 where
  pub phase : Phase
  pub point : ℕ
  pub before : ℕ
  pub during : ℕ
  pub after : ℕ

-- how many transactions of the class are active
abbrev pub active_count : Phases → Class → ℕ
active_count phases Before = phases.before
active_count phases During = phases.during
active_count phases After = phases.after

-- the same, but with that many active of the class
abbrev pub with_active : Phases → Class → ℕ → Phases
with_active phases Before count = record phases { before = count }
with_active phases During count = record phases { during = count }
with_active phases After count = record phases { after = count }

-- one more of the class is active
abbrev pub entered : Phases → Class → Phases
entered phases class = with_active phases class (active_count phases class + 1)

-- one less of the class is active
abbrev pub left : Phases → Class → Phases
left phases class = with_active phases class (active_count phases class - 1)

-- the phase in which the change is allowed
abbrev pub from_of : Change → Phase
from_of change.StartPoint = phase.Rest
from_of change.Seal = phase.Prepare
from_of change.OpenCapture = phase.Resolve
from_of change.Done = phase.Capture
from_of change.Rest = phase.Complete

-- the phase to which the change leads
abbrev pub to_of : Change → Phase
to_of change.StartPoint = phase.Prepare
to_of change.Seal = phase.Resolve
to_of change.OpenCapture = phase.Capture
to_of change.Done = phase.Complete
to_of change.Rest = phase.Rest

-- the number of obstacles to the change: active transactions, or, at Done, keys that are left to take
abbrev pub obstacle_count : Change → Phases → ℕ → ℕ
obstacle_count change.StartPoint phases left = 0
obstacle_count change.Seal phases left = phases.before
obstacle_count change.OpenCapture phases left = phases.during
obstacle_count change.Done phases left = left
obstacle_count change.Rest phases left = phases.after

-- the change begins a point, and there is none after this one
abbrev pub lacks_point : Change → ℕ → Bool
lacks_point change.StartPoint point = point == MOST_POINTS
lacks_point other point = false

-- the point after the change: the next one if it begins a point
abbrev pub point_after : Change → ℕ → ℕ
point_after change.StartPoint point = point + 1
point_after other point = point

-- NotYet, if some are left
abbrev pub some_left : ℕ → Option Held
some_left count = if count == 0 then None else Some (NotYet count)

-- what holds the change back, if that many keys are left to take: that the phase is another, or else that no point is
-- left, or else the obstacles
abbrev pub held_back : Phases → Change → ℕ → Option Held
held_back phases change left =
    if same_phase phases.phase (from_of change) then (if lacks_point change phases.point then Some PointsFull else some_left (obstacle_count change phases left)) else Some WrongPhase

-- after the change
abbrev pub advanced : Phases → Change → Phases
advanced phases change = record phases { phase = to_of change; point = point_after change phases.point }

-- only the classes that may be active in the phase are
abbrev pub FitIn : Phase → Phases → Type 0
FitIn phase.Rest phases = (phases.during ≡ 0) × (phases.after ≡ 0)
FitIn phase.Prepare phases = phases.after ≡ 0
FitIn phase.Resolve phases = phases.before ≡ 0
FitIn phase.Capture phases = (phases.before ≡ 0) × (phases.during ≡ 0)
FitIn phase.Complete phases = phases.during ≡ 0

-- The active transactions fit the phase: in rest they are of the class Before, in prepare Before or During, in resolve
-- During or After, in capture After, and in complete Before or After.
abbrev pub FitsPhase : Phases → Type 0
FitsPhase phases = FitIn phases.phase phases

-- the least point that there may be in the phase: outside rest a point was begun
abbrev pub first_point : Phase → ℕ
first_point phase.Rest = 0
first_point other = 1

-- the active transactions fit the phase, outside rest a point was begun, and none is past 65,535
pub record ArePhasesSound (phases : Phases) : Type 0 where
  pub fits : FitsPhase phases
  pub begun : first_point phases.phase ≤ phases.point
  pub limit : phases.point ≤ MOST_POINTS

-- When two phases are the same, and two classes; and the order of phases in the cycles of points.
use Rattle.std.specs.Prelude.{Bool, true, false, ℕ, ◌+◌}
use Rattle.pc_types.specs.declared.events.Class.{Class}
use Rattle.pc_types.specs.declared.events.Class.TheVariants.{Before, During, After}
use Rattle.pc_types.specs.declared.events.Phase.{Phase}
use Rattle.pc_types.specs.declared.events.Phase.TheVariants.{Rest, Prepare, Resolve, Capture, Complete}

-- the phases are the same
abbrev pub same_phase : Phase → Phase → Bool
same_phase Rest Rest = true
same_phase Prepare Prepare = true
same_phase Resolve Resolve = true
same_phase Capture Capture = true
same_phase Complete Complete = true
same_phase a b = false

-- the classes are the same
abbrev pub same_class : Class → Class → Bool
same_class Before Before = true
same_class During During = true
same_class After After = true
same_class a b = false

-- the phase after a phase in the cycles
abbrev pub next_phase : Phase → Phase
next_phase Rest = Prepare
next_phase Prepare = Resolve
next_phase Resolve = Capture
next_phase Capture = Complete
next_phase Complete = Rest

-- the point when that phase is entered: a new cycle, after rest, has the next one
abbrev pub next_point : Phase → ℕ → ℕ
next_point Rest point = point + 1
next_point other point = point

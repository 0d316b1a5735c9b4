-- How many open transactions of each class the phases count, and which of them hold a change back.
use Rattle.std.specs.Prelude.{◌≡◌, List, Option}
use Rattle.pc_types.specs.declared.Class.{Class}
use Rattle.pc_types.specs.declared.Class.TheVariants.{Before, During, After}
use Rattle.pc_phase.specs.declared.change.Change.{Change}
use Rattle.pc_phase.specs.declared.change.Change.TheVariants as change
use Rattle.pc_phase.specs.Phases.{Phases, active_count}
use Rattle.pc_transactions.specs.Sessions.{class_count}
use Rattle.pc_transactions.specs.Actives.{Active}

-- for each class, as many transactions are counted as the sessions have open
abbrev pub AreCounted : Phases → List (Option Active) → Type 0
AreCounted phases sessions = (class : Class) → active_count phases class ≡ class_count class sessions

-- the class whose open transactions hold the change back; at StartPoint and Done none does
abbrev pub holders : Change → Class
holders change.Seal = Before
holders change.OpenCapture = During
holders other = After

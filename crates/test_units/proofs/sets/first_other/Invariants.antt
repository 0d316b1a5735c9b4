use Rattle.test_units.specs.Rows.{AreKept}
use Rattle.test_units.proofs.sets.first_other.Given as goal

abbrev pub invariant-loop-step : goal.invariant-loop-step
invariant-loop-step l = AreKept l.kept.row.first.items l.kept.row.second.items l.kept.sets l.kept.opened.items

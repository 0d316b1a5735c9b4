use Rattle.test_units.specs.Rows.{AreKept}
use Rattle.test_units.proofs.sets.first_wrong.Given as goal

abbrev pub invariant-loop-at : goal.invariant-loop-at
invariant-loop-at l = AreKept l.kept.row.first.items l.kept.row.second.items l.kept.sets l.kept.opened.items

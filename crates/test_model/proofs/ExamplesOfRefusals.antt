-- Refusals: which one is answered if several could be.
-- Made from the text of the worked examples.
use Rattle.std.proofs.Common.{refl}
use Rattle.pc_model.specs.Maps as map_of
use Rattle.test_model.specs.Examples.{plain, with_sessions}
use Rattle.pc_model.proofs.Ample.{legal_run, legal_lean_run}
use Rattle.test_model.specs.ExamplesOfRefusals.{memory_refuses_and_changes_nothing, order_of_refusals, refusals_at_rest, ExamplesOfRefusals}

pub examples_of_refusals : ExamplesOfRefusals
unfolding map_of.empty map_of.get map_of.insert map_of.remove
examples_of_refusals = record {
  refusals_at_rest_runs = record { legal = legal_run plain refusals_at_rest refl; by_replies = refl; by_log = refl; leaves = refl };
  order_of_refusals_runs = record { legal = legal_run (with_sessions 2 plain) order_of_refusals refl; by_replies = refl; by_log = refl; leaves = refl };
  order_of_refusals_state_1 = record { covers = refl; gives = refl; replayed = refl };
  memory_refuses_and_changes_nothing_runs = record { legal = legal_lean_run plain memory_refuses_and_changes_nothing refl; by_replies = refl; by_log = refl; leaves = refl };
  memory_refuses_and_changes_nothing_state_2 = record { covers = refl; gives = refl; replayed = refl };
}

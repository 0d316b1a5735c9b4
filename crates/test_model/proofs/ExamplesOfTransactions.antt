-- Transactions of one session or two: what they read, and what their commits leave.
-- Made from the text of the worked examples.
use Rattle.std.proofs.Common.{refl}
use Rattle.pc_model.specs.Maps as map_of
use Rattle.test_model.specs.Examples.{plain, holding, k, v5}
use Rattle.pc_model.proofs.Ample.{legal_run}
use Rattle.test_model.specs.ExamplesOfTransactions.{aborted_writes_are_forgotten, commit_of_nothing, one_session, order_of_first_writes, read_after_own_removal, ExamplesOfTransactions}

pub examples_of_transactions : ExamplesOfTransactions
unfolding map_of.empty map_of.get map_of.insert map_of.remove
examples_of_transactions = record {
  one_session_runs = record { legal = legal_run plain one_session refl; by_replies = refl; by_log = refl; leaves = refl };
  commit_of_nothing_runs = record { legal = legal_run plain commit_of_nothing refl; by_replies = refl; by_log = refl; leaves = refl };
  read_after_own_removal_runs = record { legal = legal_run (holding k v5 plain) read_after_own_removal refl; by_replies = refl; by_log = refl; leaves = refl };
  order_of_first_writes_runs = record { legal = legal_run plain order_of_first_writes refl; by_replies = refl; by_log = refl; leaves = refl };
  order_of_first_writes_state_1 = record { covers = refl; gives = refl; replayed = refl };
  aborted_writes_are_forgotten_runs = record { legal = legal_run plain aborted_writes_are_forgotten refl; by_replies = refl; by_log = refl; leaves = refl };
  aborted_writes_are_forgotten_state_1 = record { covers = refl; gives = refl; replayed = refl };
}

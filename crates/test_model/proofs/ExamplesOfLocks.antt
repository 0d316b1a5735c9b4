-- Locks: who waits, who dies, and what is granted when a transaction ends.
-- Made from the text of the worked examples.
use Rattle.std.proofs.Common.{refl}
use Rattle.pc_model.specs.Maps as map_of
use Rattle.test_model.specs.Examples.{plain, holding, k, v5}
use Rattle.pc_model.proofs.Ample.{legal_run}
use Rattle.test_model.specs.ExamplesOfLocks.{age_goes_by_begin, death_ends_with_its_transaction, death_leaves_no_request, locks_stand_until_the_end, older_waits, several_wait, upgrade_beside_another_reader_dies, waiting_readers_are_granted_together, younger_dies, ExamplesOfLocks}

pub examples_of_locks : ExamplesOfLocks
unfolding map_of.empty map_of.get map_of.insert map_of.remove
examples_of_locks = record {
  older_waits_runs = record { legal = legal_run (holding k v5 plain) older_waits refl; by_replies = refl; by_log = refl; leaves = refl };
  younger_dies_runs = record { legal = legal_run (holding k v5 plain) younger_dies refl; by_replies = refl; by_log = refl; leaves = refl };
  upgrade_beside_another_reader_dies_runs = record { legal = legal_run (holding k v5 plain) upgrade_beside_another_reader_dies refl; by_replies = refl; by_log = refl; leaves = refl };
  waiting_readers_are_granted_together_runs = record { legal = legal_run (holding k v5 plain) waiting_readers_are_granted_together refl; by_replies = refl; by_log = refl; leaves = refl };
  death_ends_with_its_transaction_runs = record { legal = legal_run (holding k v5 plain) death_ends_with_its_transaction refl; by_replies = refl; by_log = refl; leaves = refl };
  several_wait_runs = record { legal = legal_run (holding k v5 plain) several_wait refl; by_replies = refl; by_log = refl; leaves = refl };
  locks_stand_until_the_end_runs = record { legal = legal_run plain locks_stand_until_the_end refl; by_replies = refl; by_log = refl; leaves = refl };
  age_goes_by_begin_runs = record { legal = legal_run (holding k v5 plain) age_goes_by_begin refl; by_replies = refl; by_log = refl; leaves = refl };
  death_leaves_no_request_runs = record { legal = legal_run (holding k v5 plain) death_leaves_no_request refl; by_replies = refl; by_log = refl; leaves = refl };
}

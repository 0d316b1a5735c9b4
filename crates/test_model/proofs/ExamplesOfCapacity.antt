-- Capacity: which keys are occupied, and when Full is answered.
-- Made from the text of the worked examples.
use Rattle.std.proofs.Common.{refl}
use Rattle.pc_model.specs.Maps as map_of
use Rattle.test_model.specs.Examples.{plain, holding, with_room_for, k, v5}
use Rattle.pc_model.proofs.Ample.{legal_run}
use Rattle.test_model.specs.ExamplesOfCapacity.{keys_of_the_base_are_occupied, occupied_over_a_cycle, read_key_is_occupied_until_the_end, removed_key_is_occupied_until_taken, ExamplesOfCapacity}

pub examples_of_capacity : ExamplesOfCapacity
unfolding map_of.empty map_of.get map_of.insert map_of.remove
examples_of_capacity = record {
  removed_key_is_occupied_until_taken_runs = record { legal = legal_run (with_room_for 1 plain) removed_key_is_occupied_until_taken refl; by_replies = refl; by_log = refl; leaves = refl };
  read_key_is_occupied_until_the_end_runs = record { legal = legal_run (with_room_for 1 plain) read_key_is_occupied_until_the_end refl; by_replies = refl; by_log = refl; leaves = refl };
  occupied_over_a_cycle_runs = record { legal = legal_run (with_room_for 1 plain) occupied_over_a_cycle refl; by_replies = refl; by_log = refl; leaves = refl };
  occupied_over_a_cycle_state_1 = record { covers = refl; gives = refl; replayed = refl };
  keys_of_the_base_are_occupied_runs = record { legal = legal_run (holding k v5 (with_room_for 2 plain)) keys_of_the_base_are_occupied refl; by_replies = refl; by_log = refl; leaves = refl };
}

-- Points of consistency: what a point's part has, whatever transactions are open while it is taken.
-- Made from the text of the worked examples.
use Rattle.std.proofs.Common.{refl}
use Rattle.pc_model.specs.Maps as map_of
use Rattle.test_model.specs.Examples.{plain, holding, a, k, v1, v7}
use Rattle.pc_model.proofs.Ample.{legal_run}
use Rattle.test_model.specs.ExamplesOfPoints.{abort_after_the_point, abort_in_capture, abort_in_prepare, classes_by_the_phase_of_begin, commit_after_the_point, commits_before_and_after_the_seal, empty_part, first_written_after_the_point, keys_of_two_spaces, removal_of_a_missing_key, removed_key_becomes_a_tombstone, seal_waits_for_before, taken_again_in_the_next_cycle, two_writes_over_the_point, ExamplesOfPoints}

pub examples_of_points : ExamplesOfPoints
unfolding map_of.empty map_of.get map_of.insert map_of.remove
examples_of_points = record {
  commit_after_the_point_runs = record { legal = legal_run plain commit_after_the_point refl; by_replies = refl; by_log = refl; leaves = refl };
  commit_after_the_point_state_1 = record { covers = refl; gives = refl; replayed = refl };
  commit_after_the_point_is_not_quiet = λ e. cc;
  abort_after_the_point_runs = record { legal = legal_run plain abort_after_the_point refl; by_replies = refl; by_log = refl; leaves = refl };
  abort_after_the_point_state_1 = record { covers = refl; gives = refl; replayed = refl };
  keys_of_two_spaces_runs = record { legal = legal_run plain keys_of_two_spaces refl; by_replies = refl; by_log = refl; leaves = refl };
  keys_of_two_spaces_state_1 = record { covers = refl; gives = refl; replayed = refl };
  seal_waits_for_before_runs = record { legal = legal_run plain seal_waits_for_before refl; by_replies = refl; by_log = refl; leaves = refl };
  removed_key_becomes_a_tombstone_runs = record { legal = legal_run (holding k v7 plain) removed_key_becomes_a_tombstone refl; by_replies = refl; by_log = refl; leaves = refl };
  removed_key_becomes_a_tombstone_state_1 = record { covers = refl; gives = refl; replayed = refl };
  empty_part_runs = record { legal = legal_run plain empty_part refl; by_replies = refl; by_log = refl; leaves = refl };
  empty_part_state_1 = record { covers = refl; gives = refl; replayed = refl };
  two_writes_over_the_point_runs = record { legal = legal_run plain two_writes_over_the_point refl; by_replies = refl; by_log = refl; leaves = refl };
  two_writes_over_the_point_state_1 = record { covers = refl; gives = refl; replayed = refl };
  abort_in_capture_runs = record { legal = legal_run plain abort_in_capture refl; by_replies = refl; by_log = refl; leaves = refl };
  abort_in_capture_state_1 = record { covers = refl; gives = refl; replayed = refl };
  removal_of_a_missing_key_runs = record { legal = legal_run plain removal_of_a_missing_key refl; by_replies = refl; by_log = refl; leaves = refl };
  removal_of_a_missing_key_state_1 = record { covers = refl; gives = refl; replayed = refl };
  commits_before_and_after_the_seal_runs = record { legal = legal_run plain commits_before_and_after_the_seal refl; by_replies = refl; by_log = refl; leaves = refl };
  commits_before_and_after_the_seal_state_1 = record { covers = refl; gives = refl; replayed = refl };
  abort_in_prepare_runs = record { legal = legal_run (holding a v1 plain) abort_in_prepare refl; by_replies = refl; by_log = refl; leaves = refl };
  abort_in_prepare_state_1 = record { covers = refl; gives = refl; replayed = refl };
  abort_in_prepare_is_not_quiet = λ e. cc;
  first_written_after_the_point_runs = record { legal = legal_run plain first_written_after_the_point refl; by_replies = refl; by_log = refl; leaves = refl };
  first_written_after_the_point_gap_2 = refl;
  first_written_after_the_point_state_3 = record { covers = refl; gives = refl; replayed = refl };
  classes_by_the_phase_of_begin_runs = record { legal = legal_run plain classes_by_the_phase_of_begin refl; by_replies = refl; by_log = refl; leaves = refl };
  classes_by_the_phase_of_begin_state_1 = record { covers = refl; gives = refl; replayed = refl };
  taken_again_in_the_next_cycle_runs = record { legal = legal_run plain taken_again_in_the_next_cycle refl; by_replies = refl; by_log = refl; leaves = refl };
  taken_again_in_the_next_cycle_state_1 = record { covers = refl; gives = refl; replayed = refl };
  taken_again_in_the_next_cycle_state_3 = record { covers = refl; gives = refl; replayed = refl };
}

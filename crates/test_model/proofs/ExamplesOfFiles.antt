-- Files and their joins: in every order and grouping the file of the same points is the same.
-- Made from the text of the worked examples.
use Rattle.std.proofs.Common.{refl}
use Rattle.pc_model.specs.Maps as map_of
use Rattle.test_model.specs.Examples.{plain}
use Rattle.pc_model.proofs.Ample.{legal_run}
use Rattle.test_model.specs.ExamplesOfFiles.{join_over_a_missing_point, joins_of_three_points, joins_out_of_order, ExamplesOfFiles}

pub examples_of_files : ExamplesOfFiles
unfolding map_of.empty map_of.get map_of.insert map_of.remove
examples_of_files = record {
  joins_of_three_points_runs = record { legal = legal_run plain joins_of_three_points refl; by_replies = refl; by_log = refl; leaves = refl };
  joins_of_three_points_state_1 = record { covers = refl; gives = refl; replayed = refl };
  joins_of_three_points_gap_2 = refl;
  joins_of_three_points_state_4 = record { covers = refl; gives = refl; replayed = refl };
  joins_of_three_points_state_5 = record { covers = refl; gives = refl; replayed = refl };
  joins_of_three_points_state_11 = record { covers = refl; gives = refl; replayed = refl };
  joins_of_three_points_is_quiet = refl;
  join_over_a_missing_point_runs = record { legal = legal_run plain join_over_a_missing_point refl; by_replies = refl; by_log = refl; leaves = refl };
  join_over_a_missing_point_gap_12 = refl;
  joins_out_of_order_runs = record { legal = legal_run plain joins_out_of_order refl; by_replies = refl; by_log = refl; leaves = refl };
  joins_out_of_order_state_5 = record { covers = refl; gives = refl; replayed = refl };
  joins_out_of_order_gap_6 = refl;
  joins_out_of_order_state_7 = record { covers = refl; gives = refl; replayed = refl };
  joins_out_of_order_is_quiet = refl;
}

-- Adds: the sums that they return, their refusals, and their effect on a commit.
-- Made from the text of the worked examples.
use Rattle.std.proofs.Common.{[], ◌∷◌, refl}
use Rattle.pc_types.specs.Changes.{number_text, value_number, content_number}
use Rattle.pc_model.specs.Maps as map_of
use Rattle.test_model.specs.Examples.{plain, holding, with_room_for, with_sessions, a, b, k, x, y, seven, nine}
use Rattle.pc_model.proofs.Ample.{legal_run, legal_lean_run}
use Rattle.test_model.specs.ExamplesOfAdds.{add_behind_a_later_one, add_dies, add_waits, add_waits_for_a_reader, adds_before_and_after_the_seal, adds_of_two_transactions, causes_of_adds, changes_of_one_transaction, deltas_past_the_ends, reads_over_open_adds, refused_add_makes_no_request, set_sums_past_the_ends, sums_past_the_ends, values_that_are_no_numbers, ExamplesOfAdds}

pub examples_of_adds : ExamplesOfAdds
unfolding map_of.empty map_of.get map_of.insert map_of.remove number_text value_number content_number
examples_of_adds = record {
  adds_of_two_transactions_runs = record { legal = legal_run plain adds_of_two_transactions refl; by_replies = refl; by_log = refl; leaves = refl };
  adds_of_two_transactions_log = refl;
  adds_of_two_transactions_is_quiet = refl;
  values_that_are_no_numbers_runs = record { legal = legal_run (holding y [] (holding x nine (holding k seven plain))) values_that_are_no_numbers refl; by_replies = refl; by_log = refl; leaves = refl };
  values_that_are_no_numbers_log = refl;
  sums_past_the_ends_runs = record { legal = legal_run (holding b (128 ∷ 0 ∷ 0 ∷ 0 ∷ 0 ∷ 0 ∷ 0 ∷ 0 ∷ []) (holding a (127 ∷ 255 ∷ 255 ∷ 255 ∷ 255 ∷ 255 ∷ 255 ∷ 255 ∷ []) plain)) sums_past_the_ends refl; by_replies = refl; by_log = refl; leaves = refl };
  deltas_past_the_ends_runs = record { legal = legal_run (holding a (128 ∷ 0 ∷ 0 ∷ 0 ∷ 0 ∷ 0 ∷ 0 ∷ 1 ∷ []) plain) deltas_past_the_ends refl; by_replies = refl; by_log = refl; leaves = refl };
  deltas_past_the_ends_log = refl;
  changes_of_one_transaction_runs = record { legal = legal_run (holding b (0 ∷ 0 ∷ 0 ∷ 0 ∷ 0 ∷ 0 ∷ 0 ∷ 9 ∷ []) plain) changes_of_one_transaction refl; by_replies = refl; by_log = refl; leaves = refl };
  changes_of_one_transaction_log = refl;
  set_sums_past_the_ends_runs = record { legal = legal_run (holding a (127 ∷ 255 ∷ 255 ∷ 255 ∷ 255 ∷ 255 ∷ 255 ∷ 255 ∷ []) plain) set_sums_past_the_ends refl; by_replies = refl; by_log = refl; leaves = refl };
  set_sums_past_the_ends_log = refl;
  reads_over_open_adds_runs = record { legal = legal_run (holding a (0 ∷ 0 ∷ 0 ∷ 0 ∷ 0 ∷ 0 ∷ 0 ∷ 10 ∷ []) plain) reads_over_open_adds refl; by_replies = refl; by_log = refl; leaves = refl };
  add_waits_runs = record { legal = legal_run (holding k (0 ∷ 0 ∷ 0 ∷ 0 ∷ 0 ∷ 0 ∷ 0 ∷ 5 ∷ []) plain) add_waits refl; by_replies = refl; by_log = refl; leaves = refl };
  add_waits_log = refl;
  add_waits_for_a_reader_runs = record { legal = legal_run (holding k seven plain) add_waits_for_a_reader refl; by_replies = refl; by_log = refl; leaves = refl };
  add_dies_runs = record { legal = legal_run (holding x nine (holding k (0 ∷ 0 ∷ 0 ∷ 0 ∷ 0 ∷ 0 ∷ 0 ∷ 5 ∷ []) plain)) add_dies refl; by_replies = refl; by_log = refl; leaves = refl };
  refused_add_makes_no_request_runs = record { legal = legal_run (holding a (127 ∷ 255 ∷ 255 ∷ 255 ∷ 255 ∷ 255 ∷ 255 ∷ 255 ∷ []) (holding k seven plain)) refused_add_makes_no_request refl; by_replies = refl; by_log = refl; leaves = refl };
  causes_of_adds_runs = record { legal = legal_lean_run (holding k seven (holding a (127 ∷ 255 ∷ 255 ∷ 255 ∷ 255 ∷ 255 ∷ 255 ∷ 255 ∷ []) (with_sessions 2 (with_room_for 2 plain)))) causes_of_adds refl; by_replies = refl; by_log = refl; leaves = refl };
  adds_before_and_after_the_seal_runs = record { legal = legal_run (holding a (0 ∷ 0 ∷ 0 ∷ 0 ∷ 0 ∷ 0 ∷ 0 ∷ 1 ∷ []) plain) adds_before_and_after_the_seal refl; by_replies = refl; by_log = refl; leaves = refl };
  adds_before_and_after_the_seal_state_1 = record { covers = refl; gives = refl; replayed = refl };
  adds_before_and_after_the_seal_is_not_quiet = λ e. cc;
  add_behind_a_later_one_runs = record { legal = legal_run (holding a (0 ∷ 0 ∷ 0 ∷ 0 ∷ 0 ∷ 0 ∷ 0 ∷ 1 ∷ []) plain) add_behind_a_later_one refl; by_replies = refl; by_log = refl; leaves = refl };
  add_behind_a_later_one_state_1 = record { covers = refl; gives = refl; replayed = refl };
  add_behind_a_later_one_gap_2 = refl;
  add_behind_a_later_one_state_3 = record { covers = refl; gives = refl; replayed = refl };
}

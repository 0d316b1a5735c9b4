-- Replies that are not legal, each after the first steps of a worked example.
-- Made from the text of the worked examples.
use Rattle.std.specs.Prelude.{[], ◌∷◌, Some, take, pos, negsuc}
use Rattle.pc_types.specs.declared.Phase.TheVariants.{Prepare, Resolve}
use Rattle.pc_types.specs.declared.Event.TheVariants as asked
use Rattle.pc_types.specs.declared.Reply.TheVariants as told
use Rattle.pc_types.specs.declared.Refusal.TheVariants as why
use Rattle.test_model.specs.Examples.{plain, holding, with_room_for, IsIllegal, a, b, k, n, x, y, v1, v2, v5, v6, v9, seven, nine}
use Rattle.test_model.specs.ExamplesOfAdds.{add_dies, add_waits_for_a_reader, adds_of_two_transactions, deltas_past_the_ends, reads_over_open_adds, sums_past_the_ends, values_that_are_no_numbers}
use Rattle.test_model.specs.ExamplesOfCapacity.{read_key_is_occupied_until_the_end, removed_key_is_occupied_until_taken}
use Rattle.test_model.specs.ExamplesOfFiles.{joins_of_three_points}
use Rattle.test_model.specs.ExamplesOfLocks.{older_waits, upgrade_beside_another_reader_dies, younger_dies}
use Rattle.test_model.specs.ExamplesOfPoints.{commit_after_the_point, empty_part, seal_waits_for_before}
use Rattle.test_model.specs.ExamplesOfTransactions.{aborted_writes_are_forgotten, one_session}

-- Replies that are not legal, each after the first steps of a worked example.
pub record ExamplesOfIllegalReplies : Type 0 where
  -- Seal waits for every transaction that began before the point was started.
  pub seal_over_an_open_transaction : IsIllegal plain (take 3 seal_waits_for_before) asked.Seal (told.Phase Resolve 1)
  -- OutOfMemory is no answer if NotYet is one.
  pub memory_before_not_yet : IsIllegal plain (take 3 seal_waits_for_before) asked.Seal (told.Refused why.OutOfMemory)
  -- OutOfMemory is no answer if another refusal is one.
  pub memory_before_wrong_phase : IsIllegal plain (take 0 seal_waits_for_before) asked.Seal (told.Refused why.OutOfMemory)
  -- Take takes the key that was written first.
  pub take_out_of_order : IsIllegal plain (take 12 commit_after_the_point) asked.Take (told.Took b (Some v9))
  -- A taken key is not taken again.
  pub taken_twice : IsIllegal plain (take 13 commit_after_the_point) asked.Take (told.Took a (Some v1))
  -- NoneLeft is answered only if all keys are taken.
  pub none_left_while_a_key_is_left : IsIllegal plain (take 12 commit_after_the_point) asked.Take told.NoneLeft
  -- Done waits until all keys are taken.
  pub done_while_a_key_is_left : IsIllegal plain (take 13 commit_after_the_point) asked.Done (told.PartDone 1 1 1)
  -- A part has an entry for each key that was taken.
  pub part_without_an_entry : IsIllegal plain (take 14 commit_after_the_point) asked.Done (told.PartDone 1 1 1)
  -- Log numbers count tokens too.
  pub log_number_without_tokens : IsIllegal plain (take 8 commit_after_the_point) (asked.Commit 2) (told.Committed 2)
  -- A join has each key once.
  pub join_with_a_key_twice : IsIllegal plain (take 33 joins_of_three_points) (asked.Join 1 2) (told.File 4 (1 ∷ 2 ∷ []) 3)
  -- A join covers the points of both.
  pub join_without_a_point : IsIllegal plain (take 33 joins_of_three_points) (asked.Join 1 2) (told.File 4 (1 ∷ []) 2)
  -- The read of an aborted transaction leaves no occupied key.
  pub full_where_a_place_is_free : IsIllegal (with_room_for 1 plain) (take 5 read_key_is_occupied_until_the_end) (asked.Put 1 y v1) (told.Refused why.Full)
  -- A key written since the last point is occupied.
  pub written_where_no_place_is_free : IsIllegal (with_room_for 1 plain) (take 7 removed_key_is_occupied_until_taken) (asked.Put 1 b v2) told.Ok
  -- An older transaction waits and does not die.
  pub older_dies : IsIllegal (holding k v5 plain) (take 3 older_waits) (asked.Get 1 k) told.Died
  -- A younger transaction dies and does not wait.
  pub younger_waits : IsIllegal (holding k v5 plain) (take 3 younger_dies) (asked.Get 2 k) told.Wait
  -- An upgrade next to another shared lock is not granted: read locks are held until the end.
  pub upgrade_over_a_reader : IsIllegal (holding k v5 plain) (take 4 upgrade_beside_another_reader_dies) (asked.Put 1 k v6) told.Ok
  -- What is not committed is read by no other transaction.
  pub read_of_an_uncommitted_write : IsIllegal (holding k v5 plain) (take 3 older_waits) (asked.Get 1 k) (told.Found v6)
  -- A transaction reads its own write.
  pub read_past_the_own_write : IsIllegal plain (take 3 one_session) (asked.Get 1 a) told.Absent
  -- A transaction that waits doesn't commit.
  pub commit_while_waiting : IsIllegal (holding k v5 plain) (take 4 older_waits) (asked.Commit 1) (told.Committed 1)
  -- Abort takes no memory.
  pub abort_refused_for_memory : IsIllegal (holding k v5 plain) (take 3 older_waits) (asked.Abort 1) (told.Refused why.OutOfMemory)
  -- Numbers of aborted transactions are not used again.
  pub transaction_number_used_again : IsIllegal plain (take 4 aborted_writes_are_forgotten) (asked.Begin 1) (told.Begun 1)
  -- Points are numbered on by one.
  pub point_number_skipped : IsIllegal plain (take 6 empty_part) asked.StartPoint (told.Phase Prepare 3)
  -- A value of seven bytes is no number, and none is added to it.
  pub add_to_seven_bytes : IsIllegal (holding y [] (holding x nine (holding k seven plain))) (take 1 values_that_are_no_numbers) (asked.Add 1 k (pos 1)) (told.Sum (pos 1))
  -- OutOfMemory is no answer if an add is refused for the key's value.
  pub memory_before_not_number : IsIllegal (holding y [] (holding x nine (holding k seven plain))) (take 1 values_that_are_no_numbers) (asked.Add 1 k (pos 1)) (told.Refused why.OutOfMemory)
  -- A sum that leaves 64 bits is not answered, neither as it is nor from the other end.
  pub sum_past_the_greatest : IsIllegal (holding b (128 ∷ 0 ∷ 0 ∷ 0 ∷ 0 ∷ 0 ∷ 0 ∷ 0 ∷ []) (holding a (127 ∷ 255 ∷ 255 ∷ 255 ∷ 255 ∷ 255 ∷ 255 ∷ 255 ∷ []) plain)) (take 1 sums_past_the_ends) (asked.Add 1 a (pos 1)) (told.Sum (negsuc 9223372036854775807))
  -- Nor is one if the total that the transaction adds to the key would leave them.
  pub delta_past_the_greatest : IsIllegal (holding a (128 ∷ 0 ∷ 0 ∷ 0 ∷ 0 ∷ 0 ∷ 0 ∷ 1 ∷ []) plain) (take 2 deltas_past_the_ends) (asked.Add 1 a (pos 9223372036854775807)) (told.Sum (pos 9223372036854775807))
  -- If there is no number nothing is out of range.
  pub out_of_range_before_not_number : IsIllegal (holding y [] (holding x nine (holding k seven plain))) (take 1 values_that_are_no_numbers) (asked.Add 1 k (pos 9223372036854775807)) (told.Refused why.OutOfRange)
  -- The sum has what the transaction has added before.
  pub sum_without_the_own_add : IsIllegal plain (take 2 adds_of_two_transactions) (asked.Add 1 n (negsuc 1)) (told.Sum (negsuc 1))
  -- An add returns its sum.
  pub add_that_is_told_ok : IsIllegal plain (take 1 adds_of_two_transactions) (asked.Add 1 n (pos 5)) told.Ok
  -- A read finds what the transaction has added.
  pub read_before_the_own_add : IsIllegal (holding a (0 ∷ 0 ∷ 0 ∷ 0 ∷ 0 ∷ 0 ∷ 0 ∷ 10 ∷ []) plain) (take 6 reads_over_open_adds) (asked.Get 1 b) told.Absent
  -- An add that has to wait does, whatever the key's value.
  pub not_number_before_the_lock : IsIllegal (holding k seven plain) (take 3 add_waits_for_a_reader) (asked.Add 1 k (pos 1)) (told.Refused why.NotNumber)
  -- And one that has to die does.
  pub not_number_of_one_that_dies : IsIllegal (holding x nine (holding k (0 ∷ 0 ∷ 0 ∷ 0 ∷ 0 ∷ 0 ∷ 0 ∷ 5 ∷ []) plain)) (take 9 add_dies) (asked.Add 1 x (pos 1)) (told.Refused why.NotNumber)

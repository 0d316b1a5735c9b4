-- Replies that are not legal, each after the first steps of a worked example.
-- Made from the text of the worked examples.
use Rattle.std.specs.Prelude.{pos, negsuc}
use Rattle.std.proofs.Common.{◌≡◌, [], ◌∷◌, take, Some, ap, inl, inr, true, false}
use Rattle.pc_types.specs.declared.Phase.TheVariants.{Prepare, Resolve}
use Rattle.pc_types.specs.declared.Event.TheVariants as asked
use Rattle.pc_types.specs.declared.Reply.TheVariants as told
use Rattle.pc_types.specs.declared.Refusal.TheVariants as why
use Rattle.pc_types.specs.Changes.{number_text, value_number, content_number}
use Rattle.pc_model.specs.Maps as map_of
use Rattle.pc_model.specs.Database.{same_bytes}
use Rattle.test_model.specs.Examples.{plain, holding, with_room_for, IsIllegal, a, b, k, n, x, y, v1, v2, v5, v6, v9, seven, nine}
use Rattle.test_model.proofs.Taken.{key_taken}
use Rattle.test_model.specs.ExamplesOfAdds.{add_dies, add_waits_for_a_reader, adds_of_two_transactions, deltas_past_the_ends, reads_over_open_adds, sums_past_the_ends, values_that_are_no_numbers}
use Rattle.test_model.specs.ExamplesOfCapacity.{read_key_is_occupied_until_the_end, removed_key_is_occupied_until_taken}
use Rattle.test_model.specs.ExamplesOfFiles.{joins_of_three_points}
use Rattle.test_model.specs.ExamplesOfLocks.{older_waits, upgrade_beside_another_reader_dies, younger_dies}
use Rattle.test_model.specs.ExamplesOfPoints.{commit_after_the_point, empty_part, seal_waits_for_before}
use Rattle.test_model.specs.ExamplesOfTransactions.{aborted_writes_are_forgotten, one_session}
use Rattle.test_model.specs.ExamplesOfIllegalReplies.{ExamplesOfIllegalReplies}

seal_over_an_open_transaction : IsIllegal plain (take 3 seal_waits_for_before) asked.Seal (told.Phase Resolve 1)
unfolding map_of.empty map_of.get map_of.insert map_of.remove
seal_over_an_open_transaction e = cc

memory_before_not_yet : IsIllegal plain (take 3 seal_waits_for_before) asked.Seal (told.Refused why.OutOfMemory)
unfolding map_of.empty map_of.get map_of.insert map_of.remove
memory_before_not_yet e = cc

memory_before_wrong_phase : IsIllegal plain (take 0 seal_waits_for_before) asked.Seal (told.Refused why.OutOfMemory)
unfolding map_of.empty map_of.get map_of.insert map_of.remove
memory_before_wrong_phase e = cc

take_out_of_order : IsIllegal plain (take 12 commit_after_the_point) asked.Take (told.Took b (Some v9))
unfolding map_of.empty map_of.get map_of.insert map_of.remove
take_out_of_order (inl (content, e)) = let other : false ≡ true = ap (λ r. same_bytes (key_taken r) a) e in cc
take_out_of_order (inr e) = cc

taken_twice : IsIllegal plain (take 13 commit_after_the_point) asked.Take (told.Took a (Some v1))
unfolding map_of.empty map_of.get map_of.insert map_of.remove
taken_twice (inl (content, e)) = let other : false ≡ true = ap (λ r. same_bytes (key_taken r) b) e in cc
taken_twice (inr e) = cc

none_left_while_a_key_is_left : IsIllegal plain (take 12 commit_after_the_point) asked.Take told.NoneLeft
unfolding map_of.empty map_of.get map_of.insert map_of.remove
none_left_while_a_key_is_left (inl (content, e)) = cc
none_left_while_a_key_is_left (inr e) = cc

done_while_a_key_is_left : IsIllegal plain (take 13 commit_after_the_point) asked.Done (told.PartDone 1 1 1)
unfolding map_of.empty map_of.get map_of.insert map_of.remove
done_while_a_key_is_left e = cc

part_without_an_entry : IsIllegal plain (take 14 commit_after_the_point) asked.Done (told.PartDone 1 1 1)
unfolding map_of.empty map_of.get map_of.insert map_of.remove
part_without_an_entry (inl e) = cc
part_without_an_entry (inr e) = cc

log_number_without_tokens : IsIllegal plain (take 8 commit_after_the_point) (asked.Commit 2) (told.Committed 2)
unfolding map_of.empty map_of.get map_of.insert map_of.remove
log_number_without_tokens (inl e) = cc
log_number_without_tokens (inr e) = cc

join_with_a_key_twice : IsIllegal plain (take 33 joins_of_three_points) (asked.Join 1 2) (told.File 4 (1 ∷ 2 ∷ []) 3)
unfolding map_of.empty map_of.get map_of.insert map_of.remove
join_with_a_key_twice (inl e) = cc
join_with_a_key_twice (inr e) = cc

join_without_a_point : IsIllegal plain (take 33 joins_of_three_points) (asked.Join 1 2) (told.File 4 (1 ∷ []) 2)
unfolding map_of.empty map_of.get map_of.insert map_of.remove
join_without_a_point (inl e) = cc
join_without_a_point (inr e) = cc

full_where_a_place_is_free : IsIllegal (with_room_for 1 plain) (take 5 read_key_is_occupied_until_the_end) (asked.Put 1 y v1) (told.Refused why.Full)
unfolding map_of.empty map_of.get map_of.insert map_of.remove
full_where_a_place_is_free (inl e) = cc
full_where_a_place_is_free (inr e) = cc

written_where_no_place_is_free : IsIllegal (with_room_for 1 plain) (take 7 removed_key_is_occupied_until_taken) (asked.Put 1 b v2) told.Ok
unfolding map_of.empty map_of.get map_of.insert map_of.remove
written_where_no_place_is_free e = cc

older_dies : IsIllegal (holding k v5 plain) (take 3 older_waits) (asked.Get 1 k) told.Died
unfolding map_of.empty map_of.get map_of.insert map_of.remove
older_dies (inl e) = cc
older_dies (inr e) = cc

younger_waits : IsIllegal (holding k v5 plain) (take 3 younger_dies) (asked.Get 2 k) told.Wait
unfolding map_of.empty map_of.get map_of.insert map_of.remove
younger_waits (inl e) = cc
younger_waits (inr e) = cc

upgrade_over_a_reader : IsIllegal (holding k v5 plain) (take 4 upgrade_beside_another_reader_dies) (asked.Put 1 k v6) told.Ok
unfolding map_of.empty map_of.get map_of.insert map_of.remove
upgrade_over_a_reader (inl e) = cc
upgrade_over_a_reader (inr e) = cc

read_of_an_uncommitted_write : IsIllegal (holding k v5 plain) (take 3 older_waits) (asked.Get 1 k) (told.Found v6)
unfolding map_of.empty map_of.get map_of.insert map_of.remove
read_of_an_uncommitted_write (inl e) = cc
read_of_an_uncommitted_write (inr e) = cc

read_past_the_own_write : IsIllegal plain (take 3 one_session) (asked.Get 1 a) told.Absent
unfolding map_of.empty map_of.get map_of.insert map_of.remove
read_past_the_own_write (inl e) = cc
read_past_the_own_write (inr e) = cc

commit_while_waiting : IsIllegal (holding k v5 plain) (take 4 older_waits) (asked.Commit 1) (told.Committed 1)
unfolding map_of.empty map_of.get map_of.insert map_of.remove
commit_while_waiting e = cc

abort_refused_for_memory : IsIllegal (holding k v5 plain) (take 3 older_waits) (asked.Abort 1) (told.Refused why.OutOfMemory)
unfolding map_of.empty map_of.get map_of.insert map_of.remove
abort_refused_for_memory e = cc

transaction_number_used_again : IsIllegal plain (take 4 aborted_writes_are_forgotten) (asked.Begin 1) (told.Begun 1)
unfolding map_of.empty map_of.get map_of.insert map_of.remove
transaction_number_used_again (inl e) = cc
transaction_number_used_again (inr e) = cc

point_number_skipped : IsIllegal plain (take 6 empty_part) asked.StartPoint (told.Phase Prepare 3)
unfolding map_of.empty map_of.get map_of.insert map_of.remove
point_number_skipped (inl e) = cc
point_number_skipped (inr e) = cc

add_to_seven_bytes : IsIllegal (holding y [] (holding x nine (holding k seven plain))) (take 1 values_that_are_no_numbers) (asked.Add 1 k (pos 1)) (told.Sum (pos 1))
unfolding map_of.empty map_of.get map_of.insert map_of.remove number_text value_number content_number
add_to_seven_bytes e = cc

memory_before_not_number : IsIllegal (holding y [] (holding x nine (holding k seven plain))) (take 1 values_that_are_no_numbers) (asked.Add 1 k (pos 1)) (told.Refused why.OutOfMemory)
unfolding map_of.empty map_of.get map_of.insert map_of.remove number_text value_number content_number
memory_before_not_number e = cc

sum_past_the_greatest : IsIllegal (holding b (128 ∷ 0 ∷ 0 ∷ 0 ∷ 0 ∷ 0 ∷ 0 ∷ 0 ∷ []) (holding a (127 ∷ 255 ∷ 255 ∷ 255 ∷ 255 ∷ 255 ∷ 255 ∷ 255 ∷ []) plain)) (take 1 sums_past_the_ends) (asked.Add 1 a (pos 1)) (told.Sum (negsuc 9223372036854775807))
unfolding map_of.empty map_of.get map_of.insert map_of.remove number_text value_number content_number
sum_past_the_greatest e = cc

delta_past_the_greatest : IsIllegal (holding a (128 ∷ 0 ∷ 0 ∷ 0 ∷ 0 ∷ 0 ∷ 0 ∷ 1 ∷ []) plain) (take 2 deltas_past_the_ends) (asked.Add 1 a (pos 9223372036854775807)) (told.Sum (pos 9223372036854775807))
unfolding map_of.empty map_of.get map_of.insert map_of.remove number_text value_number content_number
delta_past_the_greatest e = cc

out_of_range_before_not_number : IsIllegal (holding y [] (holding x nine (holding k seven plain))) (take 1 values_that_are_no_numbers) (asked.Add 1 k (pos 9223372036854775807)) (told.Refused why.OutOfRange)
unfolding map_of.empty map_of.get map_of.insert map_of.remove number_text value_number content_number
out_of_range_before_not_number e = cc

sum_without_the_own_add : IsIllegal plain (take 2 adds_of_two_transactions) (asked.Add 1 n (negsuc 1)) (told.Sum (negsuc 1))
unfolding map_of.empty map_of.get map_of.insert map_of.remove number_text value_number content_number
sum_without_the_own_add (inl e) = cc
sum_without_the_own_add (inr e) = cc

add_that_is_told_ok : IsIllegal plain (take 1 adds_of_two_transactions) (asked.Add 1 n (pos 5)) told.Ok
unfolding map_of.empty map_of.get map_of.insert map_of.remove number_text value_number content_number
add_that_is_told_ok (inl e) = cc
add_that_is_told_ok (inr e) = cc

read_before_the_own_add : IsIllegal (holding a (0 ∷ 0 ∷ 0 ∷ 0 ∷ 0 ∷ 0 ∷ 0 ∷ 10 ∷ []) plain) (take 6 reads_over_open_adds) (asked.Get 1 b) told.Absent
unfolding map_of.empty map_of.get map_of.insert map_of.remove number_text value_number content_number
read_before_the_own_add (inl e) = cc
read_before_the_own_add (inr e) = cc

not_number_before_the_lock : IsIllegal (holding k seven plain) (take 3 add_waits_for_a_reader) (asked.Add 1 k (pos 1)) (told.Refused why.NotNumber)
unfolding map_of.empty map_of.get map_of.insert map_of.remove number_text value_number content_number
not_number_before_the_lock (inl e) = cc
not_number_before_the_lock (inr e) = cc

not_number_of_one_that_dies : IsIllegal (holding x nine (holding k (0 ∷ 0 ∷ 0 ∷ 0 ∷ 0 ∷ 0 ∷ 0 ∷ 5 ∷ []) plain)) (take 9 add_dies) (asked.Add 1 x (pos 1)) (told.Refused why.NotNumber)
unfolding map_of.empty map_of.get map_of.insert map_of.remove number_text value_number content_number
not_number_of_one_that_dies (inl e) = cc
not_number_of_one_that_dies (inr e) = cc

pub examples_of_illegal_replies : ExamplesOfIllegalReplies
unfolding map_of.empty map_of.get map_of.insert map_of.remove number_text value_number content_number
examples_of_illegal_replies = record {
  seal_over_an_open_transaction = seal_over_an_open_transaction;
  memory_before_not_yet = memory_before_not_yet;
  memory_before_wrong_phase = memory_before_wrong_phase;
  take_out_of_order = take_out_of_order;
  taken_twice = taken_twice;
  none_left_while_a_key_is_left = none_left_while_a_key_is_left;
  done_while_a_key_is_left = done_while_a_key_is_left;
  part_without_an_entry = part_without_an_entry;
  log_number_without_tokens = log_number_without_tokens;
  join_with_a_key_twice = join_with_a_key_twice;
  join_without_a_point = join_without_a_point;
  full_where_a_place_is_free = full_where_a_place_is_free;
  written_where_no_place_is_free = written_where_no_place_is_free;
  older_dies = older_dies;
  younger_waits = younger_waits;
  upgrade_over_a_reader = upgrade_over_a_reader;
  read_of_an_uncommitted_write = read_of_an_uncommitted_write;
  read_past_the_own_write = read_past_the_own_write;
  commit_while_waiting = commit_while_waiting;
  abort_refused_for_memory = abort_refused_for_memory;
  transaction_number_used_again = transaction_number_used_again;
  point_number_skipped = point_number_skipped;
  add_to_seven_bytes = add_to_seven_bytes;
  memory_before_not_number = memory_before_not_number;
  sum_past_the_greatest = sum_past_the_greatest;
  delta_past_the_greatest = delta_past_the_greatest;
  out_of_range_before_not_number = out_of_range_before_not_number;
  sum_without_the_own_add = sum_without_the_own_add;
  add_that_is_told_ok = add_that_is_told_ok;
  read_before_the_own_add = read_before_the_own_add;
  not_number_before_the_lock = not_number_before_the_lock;
  not_number_of_one_that_dies = not_number_of_one_that_dies;
}

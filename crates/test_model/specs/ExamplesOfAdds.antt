-- Adds: the sums that they return, their refusals, and their effect on a commit.
-- Made from the text of the worked examples.
use Rattle.std.specs.Prelude.{List, [], ◌∷◌, Some, pos, negsuc}
use Rattle.pc_types.specs.declared.Phase.TheVariants.{Rest, Prepare, Resolve, Capture}
use Rattle.pc_types.specs.declared.Event.TheVariants as asked
use Rattle.pc_types.specs.declared.Reply.TheVariants as told
use Rattle.pc_types.specs.declared.Refusal.TheVariants as why
use Rattle.pc_types.specs.declared.Step.{Step}
use Rattle.pc_types.specs.declared.Entry.TheVariants.{Commit, Token}
use Rattle.pc_types.specs.declared.Change.TheVariants as does
use Rattle.pc_model.specs.Database.{write_of}
use Rattle.test_model.specs.Examples.{step, plain, holding, with_room_for, with_sessions, has, RunsTo, LaysTo, Lacks, HasLog, IsQuietRun, IsNoQuietRun, a, b, k, n, t, x, y, z, v1, v6, seven, nine}

-- Numbers are added up, also below 0, next to a value that is no number; the point has the numbers as values.
abbrev pub adds_of_two_transactions : List Step
adds_of_two_transactions = step (asked.Begin 1) (told.Begun 1)
    ∷ step (asked.Add 1 n (pos 5)) (told.Sum (pos 5))
    ∷ step (asked.Add 1 n (negsuc 1)) (told.Sum (pos 3))
    ∷ step (asked.Get 1 n) (told.Found (0 ∷ 0 ∷ 0 ∷ 0 ∷ 0 ∷ 0 ∷ 0 ∷ 3 ∷ []))
    ∷ step (asked.Commit 1) (told.Committed 1)
    ∷ step (asked.Begin 1) (told.Begun 2)
    ∷ step (asked.Put 1 t x) told.Ok
    ∷ step (asked.Add 1 t (pos 1)) (told.Refused why.NotNumber)
    ∷ step (asked.Add 1 n (pos 9223372036854775807)) (told.Refused why.OutOfRange)
    ∷ step (asked.Add 1 n (negsuc 3)) (told.Sum (negsuc 0))
    ∷ step (asked.Commit 1) (told.Committed 2)
    ∷ step asked.StartPoint (told.Phase Prepare 1)
    ∷ step asked.Seal (told.Phase Resolve 1)
    ∷ step asked.OpenCapture (told.Phase Capture 1)
    ∷ step asked.Take (told.Took n (Some (255 ∷ 255 ∷ 255 ∷ 255 ∷ 255 ∷ 255 ∷ 255 ∷ 255 ∷ [])))
    ∷ step asked.Take (told.Took t (Some x))
    ∷ []

-- A value of seven bytes, of nine or of none is no number; no value counts as 0, and 0 may be added.
abbrev pub values_that_are_no_numbers : List Step
values_that_are_no_numbers = step (asked.Begin 1) (told.Begun 1)
    ∷ step (asked.Add 1 k (pos 0)) (told.Refused why.NotNumber)
    ∷ step (asked.Add 1 x (pos 1)) (told.Refused why.NotNumber)
    ∷ step (asked.Add 1 y (pos 1)) (told.Refused why.NotNumber)
    ∷ step (asked.Add 1 z (pos 0)) (told.Sum (pos 0))
    ∷ step (asked.Put 1 k (0 ∷ 0 ∷ 0 ∷ 0 ∷ 0 ∷ 0 ∷ 0 ∷ 7 ∷ [])) told.Ok
    ∷ step (asked.Add 1 k (negsuc 6)) (told.Sum (pos 0))
    ∷ step (asked.Commit 1) (told.Committed 1)
    ∷ []

-- A sum above the greatest number of 64 bits or below the least is refused, and up to each of them is none.
abbrev pub sums_past_the_ends : List Step
sums_past_the_ends = step (asked.Begin 1) (told.Begun 1)
    ∷ step (asked.Add 1 a (pos 1)) (told.Refused why.OutOfRange)
    ∷ step (asked.Add 1 b (negsuc 0)) (told.Refused why.OutOfRange)
    ∷ step (asked.Add 1 a (pos 0)) (told.Sum (pos 9223372036854775807))
    ∷ step (asked.Add 1 b (pos 0)) (told.Sum (negsuc 9223372036854775807))
    ∷ step (asked.Add 1 a (negsuc 9223372036854775807)) (told.Sum (negsuc 0))
    ∷ step (asked.Add 1 b (pos 9223372036854775807)) (told.Sum (negsuc 0))
    ∷ step (asked.Get 1 a) (told.Found (255 ∷ 255 ∷ 255 ∷ 255 ∷ 255 ∷ 255 ∷ 255 ∷ 255 ∷ []))
    ∷ step (asked.Commit 1) (told.Committed 1)
    ∷ step (asked.Begin 1) (told.Begun 2)
    ∷ step (asked.Add 1 k (negsuc 9223372036854775807)) (told.Sum (negsuc 9223372036854775807))
    ∷ step (asked.Add 1 a (negsuc 9223372036854775806)) (told.Sum (negsuc 9223372036854775807))
    ∷ step (asked.Commit 1) (told.Committed 2)
    ∷ []

-- What a transaction adds to a key has 64 bits in all, though the number would fit; the next transaction begins anew.
abbrev pub deltas_past_the_ends : List Step
deltas_past_the_ends = step (asked.Begin 1) (told.Begun 1)
    ∷ step (asked.Add 1 a (pos 9223372036854775807)) (told.Sum (pos 0))
    ∷ step (asked.Add 1 a (pos 9223372036854775807)) (told.Refused why.OutOfRange)
    ∷ step (asked.Add 1 a (pos 1)) (told.Refused why.OutOfRange)
    ∷ step (asked.Get 1 a) (told.Found (0 ∷ 0 ∷ 0 ∷ 0 ∷ 0 ∷ 0 ∷ 0 ∷ 0 ∷ []))
    ∷ step (asked.Commit 1) (told.Committed 1)
    ∷ step (asked.Begin 1) (told.Begun 2)
    ∷ step (asked.Add 1 a (pos 9223372036854775807)) (told.Sum (pos 9223372036854775807))
    ∷ step (asked.Add 1 a (negsuc 9223372036854775807)) (told.Sum (negsuc 0))
    ∷ step (asked.Commit 1) (told.Committed 2)
    ∷ []

-- Adds after a put or a removal set the key, adds after one another are one, and puts and removals take their place.
abbrev pub changes_of_one_transaction : List Step
changes_of_one_transaction = step (asked.Begin 1) (told.Begun 1)
    ∷ step (asked.Put 1 a (0 ∷ 0 ∷ 0 ∷ 0 ∷ 0 ∷ 0 ∷ 0 ∷ 5 ∷ [])) told.Ok
    ∷ step (asked.Add 1 a (pos 2)) (told.Sum (pos 7))
    ∷ step (asked.Del 1 b) told.Ok
    ∷ step (asked.Add 1 b (negsuc 2)) (told.Sum (negsuc 2))
    ∷ step (asked.Add 1 k (pos 4)) (told.Sum (pos 4))
    ∷ step (asked.Add 1 k (pos 5)) (told.Sum (pos 9))
    ∷ step (asked.Add 1 x (pos 1)) (told.Sum (pos 1))
    ∷ step (asked.Put 1 x v6) told.Ok
    ∷ step (asked.Add 1 y (pos 1)) (told.Sum (pos 1))
    ∷ step (asked.Del 1 y) told.Ok
    ∷ step (asked.Get 1 y) told.Absent
    ∷ step (asked.Add 1 z (pos 1)) (told.Sum (pos 1))
    ∷ step (asked.Del 1 z) told.Ok
    ∷ step (asked.Add 1 z (pos 8)) (told.Sum (pos 8))
    ∷ step (asked.Add 1 z (pos 8)) (told.Sum (pos 16))
    ∷ step (asked.Commit 1) (told.Committed 1)
    ∷ []

-- After an own put the put value counts; the sum of deltas is none there, and after an own removal it begins with 0.
abbrev pub set_sums_past_the_ends : List Step
set_sums_past_the_ends = step (asked.Begin 1) (told.Begun 1)
    ∷ step (asked.Put 1 a (127 ∷ 255 ∷ 255 ∷ 255 ∷ 255 ∷ 255 ∷ 255 ∷ 255 ∷ [])) told.Ok
    ∷ step (asked.Add 1 a (pos 1)) (told.Refused why.OutOfRange)
    ∷ step (asked.Add 1 a (negsuc 9223372036854775807)) (told.Sum (negsuc 0))
    ∷ step (asked.Add 1 a (negsuc 9223372036854775806)) (told.Sum (negsuc 9223372036854775807))
    ∷ step (asked.Add 1 a (negsuc 0)) (told.Refused why.OutOfRange)
    ∷ step (asked.Del 1 a) told.Ok
    ∷ step (asked.Add 1 a (pos 9223372036854775807)) (told.Sum (pos 9223372036854775807))
    ∷ step (asked.Add 1 a (pos 1)) (told.Refused why.OutOfRange)
    ∷ step (asked.Put 1 a seven) told.Ok
    ∷ step (asked.Add 1 a (pos 1)) (told.Refused why.NotNumber)
    ∷ step (asked.Del 1 a) told.Ok
    ∷ step (asked.Add 1 a (pos 1)) (told.Sum (pos 1))
    ∷ step (asked.Commit 1) (told.Committed 1)
    ∷ []

-- A read finds what the transaction's adds make of what is committed, and an abort takes them back.
abbrev pub reads_over_open_adds : List Step
reads_over_open_adds = step (asked.Begin 1) (told.Begun 1)
    ∷ step (asked.Get 1 a) (told.Found (0 ∷ 0 ∷ 0 ∷ 0 ∷ 0 ∷ 0 ∷ 0 ∷ 10 ∷ []))
    ∷ step (asked.Add 1 a (pos 5)) (told.Sum (pos 15))
    ∷ step (asked.Get 1 a) (told.Found (0 ∷ 0 ∷ 0 ∷ 0 ∷ 0 ∷ 0 ∷ 0 ∷ 15 ∷ []))
    ∷ step (asked.Get 1 b) told.Absent
    ∷ step (asked.Add 1 b (negsuc 0)) (told.Sum (negsuc 0))
    ∷ step (asked.Get 1 b) (told.Found (255 ∷ 255 ∷ 255 ∷ 255 ∷ 255 ∷ 255 ∷ 255 ∷ 255 ∷ []))
    ∷ step (asked.Abort 1) told.Aborted
    ∷ step (asked.Begin 1) (told.Begun 2)
    ∷ step (asked.Get 1 a) (told.Found (0 ∷ 0 ∷ 0 ∷ 0 ∷ 0 ∷ 0 ∷ 0 ∷ 10 ∷ []))
    ∷ step (asked.Get 1 b) told.Absent
    ∷ step (asked.Commit 1) (told.Committed 1)
    ∷ []

-- An add of an older transaction waits, and then adds to what the younger one has left.
abbrev pub add_waits : List Step
add_waits = step (asked.Begin 1) (told.Begun 1)
    ∷ step (asked.Begin 2) (told.Begun 2)
    ∷ step (asked.Add 2 k (pos 1)) (told.Sum (pos 6))
    ∷ step (asked.Add 1 k (pos 10)) told.Wait
    ∷ step (asked.Add 1 k (pos 10)) (told.Refused why.StillWaiting)
    ∷ step (asked.Commit 1) (told.Refused why.StillWaiting)
    ∷ step (asked.Commit 2) (told.Committed 1)
    ∷ step (asked.Add 1 k (pos 10)) (told.Sum (pos 16))
    ∷ step (asked.Commit 1) (told.Committed 2)
    ∷ []

-- An add that has to wait is not refused for the key's value; once it is granted it is.
abbrev pub add_waits_for_a_reader : List Step
add_waits_for_a_reader = step (asked.Begin 1) (told.Begun 1)
    ∷ step (asked.Begin 2) (told.Begun 2)
    ∷ step (asked.Get 2 k) (told.Found seven)
    ∷ step (asked.Add 1 k (pos 1)) told.Wait
    ∷ step (asked.Commit 2) (told.Committed 1)
    ∷ step (asked.Add 1 k (pos 1)) (told.Refused why.NotNumber)
    ∷ step (asked.Abort 1) told.Aborted
    ∷ []

-- An add of a younger transaction dies, and so does one next to another reader, whatever the key's value.
abbrev pub add_dies : List Step
add_dies = step (asked.Begin 1) (told.Begun 1)
    ∷ step (asked.Begin 2) (told.Begun 2)
    ∷ step (asked.Add 1 k (pos 1)) (told.Sum (pos 6))
    ∷ step (asked.Add 2 k (pos 1)) told.Died
    ∷ step (asked.Add 2 k (pos 1)) (told.Refused why.MustAbort)
    ∷ step (asked.Abort 2) told.Aborted
    ∷ step (asked.Begin 2) (told.Begun 3)
    ∷ step (asked.Get 1 x) (told.Found nine)
    ∷ step (asked.Get 2 x) (told.Found nine)
    ∷ step (asked.Add 1 x (pos 1)) told.Died
    ∷ step (asked.Abort 1) told.Aborted
    ∷ step (asked.Add 2 x (pos 1)) (told.Refused why.NotNumber)
    ∷ step (asked.Add 2 k (pos 2)) (told.Sum (pos 7))
    ∷ step (asked.Commit 2) (told.Committed 1)
    ∷ []

-- An add that is refused leaves the key to others, and its transaction goes on.
abbrev pub refused_add_makes_no_request : List Step
refused_add_makes_no_request = step (asked.Begin 1) (told.Begun 1)
    ∷ step (asked.Begin 2) (told.Begun 2)
    ∷ step (asked.Add 1 k (pos 1)) (told.Refused why.NotNumber)
    ∷ step (asked.Add 1 a (pos 1)) (told.Refused why.OutOfRange)
    ∷ step (asked.Put 2 k v1) told.Ok
    ∷ step (asked.Add 2 a (negsuc 0)) (told.Sum (pos 9223372036854775806))
    ∷ step (asked.Commit 2) (told.Committed 1)
    ∷ step (asked.Add 1 a (pos 1)) (told.Sum (pos 9223372036854775807))
    ∷ step (asked.Commit 1) (told.Committed 2)
    ∷ []

-- The causes of a put come first, then NotNumber, then OutOfRange, and a failed allocation is last.
abbrev pub causes_of_adds : List Step
causes_of_adds = step (asked.Add 3 k (pos 1)) (told.Refused why.NoSession)
    ∷ step (asked.Add 1 k (pos 1)) (told.Refused why.NoTransaction)
    ∷ step (asked.Begin 1) (told.Begun 1)
    ∷ step (asked.Add 1 b (pos 1)) (told.Refused why.Full)
    ∷ step (asked.Add 1 k (pos 9223372036854775807)) (told.Refused why.NotNumber)
    ∷ step (asked.Add 1 a (pos 9223372036854775807)) (told.Refused why.OutOfRange)
    ∷ step (asked.Add 1 a (negsuc 0)) (told.Refused why.OutOfMemory)
    ∷ step (asked.Get 1 a) (told.Found (127 ∷ 255 ∷ 255 ∷ 255 ∷ 255 ∷ 255 ∷ 255 ∷ 255 ∷ []))
    ∷ step (asked.Add 1 a (negsuc 0)) (told.Sum (pos 9223372036854775806))
    ∷ step (asked.Commit 1) (told.Committed 1)
    ∷ []

-- The point has what was added before the seal. What was added then is in no part of the point, and stays.
abbrev pub adds_before_and_after_the_seal : List Step
adds_before_and_after_the_seal = step (asked.Begin 1) (told.Begun 1)
    ∷ step (asked.Add 1 a (pos 2)) (told.Sum (pos 3))
    ∷ step (asked.Commit 1) (told.Committed 1)
    ∷ step asked.StartPoint (told.Phase Prepare 1)
    ∷ step (asked.Begin 1) (told.Begun 2)
    ∷ step (asked.Add 1 a (pos 10)) (told.Sum (pos 13))
    ∷ step (asked.Begin 2) (told.Begun 3)
    ∷ step (asked.Add 2 b (pos 7)) (told.Sum (pos 7))
    ∷ step (asked.Commit 2) (told.Committed 3)
    ∷ step asked.Seal (told.Phase Resolve 1)
    ∷ step (asked.Commit 1) (told.Committed 5)
    ∷ step asked.OpenCapture (told.Phase Capture 1)
    ∷ step asked.Take (told.Took a (Some (0 ∷ 0 ∷ 0 ∷ 0 ∷ 0 ∷ 0 ∷ 0 ∷ 3 ∷ [])))
    ∷ step asked.Take (told.Took b (Some (0 ∷ 0 ∷ 0 ∷ 0 ∷ 0 ∷ 0 ∷ 0 ∷ 7 ∷ [])))
    ∷ step asked.Take told.NoneLeft
    ∷ step asked.Done (told.PartDone 1 1 2)
    ∷ step asked.Rest (told.Phase Rest 1)
    ∷ []

-- A transaction of prepare adds to what one that began after the seal has left; the next point has both.
abbrev pub add_behind_a_later_one : List Step
add_behind_a_later_one = step asked.StartPoint (told.Phase Prepare 1)
    ∷ step (asked.Begin 1) (told.Begun 1)
    ∷ step asked.Seal (told.Phase Resolve 1)
    ∷ step (asked.Begin 2) (told.Begun 2)
    ∷ step (asked.Add 2 a (pos 10)) (told.Sum (pos 11))
    ∷ step (asked.Commit 2) (told.Committed 3)
    ∷ step (asked.Add 1 a (pos 100)) (told.Sum (pos 111))
    ∷ step asked.OpenCapture (told.NotYet 1)
    ∷ step (asked.Commit 1) (told.Committed 4)
    ∷ step asked.OpenCapture (told.Phase Capture 1)
    ∷ step asked.Take told.NoneLeft
    ∷ step asked.Done (told.PartDone 1 1 0)
    ∷ step asked.Rest (told.Phase Rest 1)
    ∷ step asked.StartPoint (told.Phase Prepare 2)
    ∷ step asked.Seal (told.Phase Resolve 2)
    ∷ step asked.OpenCapture (told.Phase Capture 2)
    ∷ step asked.Take (told.Took a (Some (0 ∷ 0 ∷ 0 ∷ 0 ∷ 0 ∷ 0 ∷ 0 ∷ 111 ∷ [])))
    ∷ step asked.Done (told.PartDone 2 2 1)
    ∷ step (asked.Join 1 2) (told.File 3 (1 ∷ 2 ∷ []) 1)
    ∷ []

-- Adds: the sums that they return, their refusals, and their effect on a commit.
pub record ExamplesOfAdds : Type 0 where
  pub adds_of_two_transactions_runs : RunsTo plain adds_of_two_transactions ([]) ((n, (255 ∷ 255 ∷ 255 ∷ 255 ∷ 255 ∷ 255 ∷ 255 ∷ 255 ∷ [])) ∷ (t, x) ∷ [])
  pub adds_of_two_transactions_log : HasLog adds_of_two_transactions (Commit 1 (write_of n (does.Add (pos 3)) ∷ []) ∷ Commit 1 (write_of t (does.Set x) ∷ write_of n (does.Add (negsuc 3)) ∷ []) ∷ Token Prepare 1 ∷ Token Resolve 1 ∷ Token Capture 1 ∷ [])
  pub adds_of_two_transactions_is_quiet : IsQuietRun plain adds_of_two_transactions
  pub values_that_are_no_numbers_runs : RunsTo (holding y [] (holding x nine (holding k seven plain))) values_that_are_no_numbers ([]) ((k, (0 ∷ 0 ∷ 0 ∷ 0 ∷ 0 ∷ 0 ∷ 0 ∷ 0 ∷ [])) ∷ (x, nine) ∷ (y, []) ∷ (z, (0 ∷ 0 ∷ 0 ∷ 0 ∷ 0 ∷ 0 ∷ 0 ∷ 0 ∷ [])) ∷ [])
  pub values_that_are_no_numbers_log : HasLog values_that_are_no_numbers (Commit 1 (write_of z (does.Add (pos 0)) ∷ write_of k (does.Set (0 ∷ 0 ∷ 0 ∷ 0 ∷ 0 ∷ 0 ∷ 0 ∷ 0 ∷ [])) ∷ []) ∷ [])
  pub sums_past_the_ends_runs : RunsTo (holding b (128 ∷ 0 ∷ 0 ∷ 0 ∷ 0 ∷ 0 ∷ 0 ∷ 0 ∷ []) (holding a (127 ∷ 255 ∷ 255 ∷ 255 ∷ 255 ∷ 255 ∷ 255 ∷ 255 ∷ []) plain)) sums_past_the_ends ([]) ((a, (128 ∷ 0 ∷ 0 ∷ 0 ∷ 0 ∷ 0 ∷ 0 ∷ 0 ∷ [])) ∷ (b, (255 ∷ 255 ∷ 255 ∷ 255 ∷ 255 ∷ 255 ∷ 255 ∷ 255 ∷ [])) ∷ (k, (128 ∷ 0 ∷ 0 ∷ 0 ∷ 0 ∷ 0 ∷ 0 ∷ 0 ∷ [])) ∷ [])
  pub deltas_past_the_ends_runs : RunsTo (holding a (128 ∷ 0 ∷ 0 ∷ 0 ∷ 0 ∷ 0 ∷ 0 ∷ 1 ∷ []) plain) deltas_past_the_ends ([]) ((a, (255 ∷ 255 ∷ 255 ∷ 255 ∷ 255 ∷ 255 ∷ 255 ∷ 255 ∷ [])) ∷ [])
  pub deltas_past_the_ends_log : HasLog deltas_past_the_ends (Commit 1 (write_of a (does.Add (pos 9223372036854775807)) ∷ []) ∷ Commit 1 (write_of a (does.Add (negsuc 0)) ∷ []) ∷ [])
  pub changes_of_one_transaction_runs : RunsTo (holding b (0 ∷ 0 ∷ 0 ∷ 0 ∷ 0 ∷ 0 ∷ 0 ∷ 9 ∷ []) plain) changes_of_one_transaction ([]) ((a, (0 ∷ 0 ∷ 0 ∷ 0 ∷ 0 ∷ 0 ∷ 0 ∷ 7 ∷ [])) ∷ (b, (255 ∷ 255 ∷ 255 ∷ 255 ∷ 255 ∷ 255 ∷ 255 ∷ 253 ∷ [])) ∷ (k, (0 ∷ 0 ∷ 0 ∷ 0 ∷ 0 ∷ 0 ∷ 0 ∷ 9 ∷ [])) ∷ (x, v6) ∷ (z, (0 ∷ 0 ∷ 0 ∷ 0 ∷ 0 ∷ 0 ∷ 0 ∷ 16 ∷ [])) ∷ [])
  pub changes_of_one_transaction_log : HasLog changes_of_one_transaction (Commit 1 (write_of a (does.Set (0 ∷ 0 ∷ 0 ∷ 0 ∷ 0 ∷ 0 ∷ 0 ∷ 7 ∷ [])) ∷ write_of b (does.Set (255 ∷ 255 ∷ 255 ∷ 255 ∷ 255 ∷ 255 ∷ 255 ∷ 253 ∷ [])) ∷ write_of k (does.Add (pos 9)) ∷ write_of x (does.Set v6) ∷ write_of y does.Remove ∷ write_of z (does.Set (0 ∷ 0 ∷ 0 ∷ 0 ∷ 0 ∷ 0 ∷ 0 ∷ 16 ∷ [])) ∷ []) ∷ [])
  pub set_sums_past_the_ends_runs : RunsTo (holding a (127 ∷ 255 ∷ 255 ∷ 255 ∷ 255 ∷ 255 ∷ 255 ∷ 255 ∷ []) plain) set_sums_past_the_ends ([]) ((a, (0 ∷ 0 ∷ 0 ∷ 0 ∷ 0 ∷ 0 ∷ 0 ∷ 1 ∷ [])) ∷ [])
  pub set_sums_past_the_ends_log : HasLog set_sums_past_the_ends (Commit 1 (write_of a (does.Set (0 ∷ 0 ∷ 0 ∷ 0 ∷ 0 ∷ 0 ∷ 0 ∷ 1 ∷ [])) ∷ []) ∷ [])
  pub reads_over_open_adds_runs : RunsTo (holding a (0 ∷ 0 ∷ 0 ∷ 0 ∷ 0 ∷ 0 ∷ 0 ∷ 10 ∷ []) plain) reads_over_open_adds ([]) ((a, (0 ∷ 0 ∷ 0 ∷ 0 ∷ 0 ∷ 0 ∷ 0 ∷ 10 ∷ [])) ∷ [])
  pub add_waits_runs : RunsTo (holding k (0 ∷ 0 ∷ 0 ∷ 0 ∷ 0 ∷ 0 ∷ 0 ∷ 5 ∷ []) plain) add_waits ([]) ((k, (0 ∷ 0 ∷ 0 ∷ 0 ∷ 0 ∷ 0 ∷ 0 ∷ 16 ∷ [])) ∷ [])
  pub add_waits_log : HasLog add_waits (Commit 2 (write_of k (does.Add (pos 1)) ∷ []) ∷ Commit 1 (write_of k (does.Add (pos 10)) ∷ []) ∷ [])
  pub add_waits_for_a_reader_runs : RunsTo (holding k seven plain) add_waits_for_a_reader ([]) ((k, seven) ∷ [])
  pub add_dies_runs : RunsTo (holding x nine (holding k (0 ∷ 0 ∷ 0 ∷ 0 ∷ 0 ∷ 0 ∷ 0 ∷ 5 ∷ []) plain)) add_dies ([]) ((k, (0 ∷ 0 ∷ 0 ∷ 0 ∷ 0 ∷ 0 ∷ 0 ∷ 7 ∷ [])) ∷ (x, nine) ∷ [])
  pub refused_add_makes_no_request_runs : RunsTo (holding a (127 ∷ 255 ∷ 255 ∷ 255 ∷ 255 ∷ 255 ∷ 255 ∷ 255 ∷ []) (holding k seven plain)) refused_add_makes_no_request ([]) ((a, (127 ∷ 255 ∷ 255 ∷ 255 ∷ 255 ∷ 255 ∷ 255 ∷ 255 ∷ [])) ∷ (k, v1) ∷ [])
  pub causes_of_adds_runs : RunsTo (holding k seven (holding a (127 ∷ 255 ∷ 255 ∷ 255 ∷ 255 ∷ 255 ∷ 255 ∷ 255 ∷ []) (with_sessions 2 (with_room_for 2 plain)))) causes_of_adds ([]) ((a, (127 ∷ 255 ∷ 255 ∷ 255 ∷ 255 ∷ 255 ∷ 255 ∷ 254 ∷ [])) ∷ (k, seven) ∷ [])
  pub adds_before_and_after_the_seal_runs : RunsTo (holding a (0 ∷ 0 ∷ 0 ∷ 0 ∷ 0 ∷ 0 ∷ 0 ∷ 1 ∷ []) plain) adds_before_and_after_the_seal ((1 ∷ [], has a 1 (0 ∷ 0 ∷ 0 ∷ 0 ∷ 0 ∷ 0 ∷ 0 ∷ 3 ∷ []) ∷ has b 1 (0 ∷ 0 ∷ 0 ∷ 0 ∷ 0 ∷ 0 ∷ 0 ∷ 7 ∷ []) ∷ []) ∷ []) ((a, (0 ∷ 0 ∷ 0 ∷ 0 ∷ 0 ∷ 0 ∷ 0 ∷ 13 ∷ [])) ∷ (b, (0 ∷ 0 ∷ 0 ∷ 0 ∷ 0 ∷ 0 ∷ 0 ∷ 7 ∷ [])) ∷ [])
  pub adds_before_and_after_the_seal_state_1 : LaysTo (holding a (0 ∷ 0 ∷ 0 ∷ 0 ∷ 0 ∷ 0 ∷ 0 ∷ 1 ∷ []) plain) adds_before_and_after_the_seal 1 1 ((a, (0 ∷ 0 ∷ 0 ∷ 0 ∷ 0 ∷ 0 ∷ 0 ∷ 3 ∷ [])) ∷ (b, (0 ∷ 0 ∷ 0 ∷ 0 ∷ 0 ∷ 0 ∷ 0 ∷ 7 ∷ [])) ∷ [])
  pub adds_before_and_after_the_seal_is_not_quiet : IsNoQuietRun (holding a (0 ∷ 0 ∷ 0 ∷ 0 ∷ 0 ∷ 0 ∷ 0 ∷ 1 ∷ []) plain) adds_before_and_after_the_seal
  pub add_behind_a_later_one_runs : RunsTo (holding a (0 ∷ 0 ∷ 0 ∷ 0 ∷ 0 ∷ 0 ∷ 0 ∷ 1 ∷ []) plain) add_behind_a_later_one ((1 ∷ [], []) ∷ (2 ∷ [], has a 2 (0 ∷ 0 ∷ 0 ∷ 0 ∷ 0 ∷ 0 ∷ 0 ∷ 111 ∷ []) ∷ []) ∷ (1 ∷ 2 ∷ [], has a 2 (0 ∷ 0 ∷ 0 ∷ 0 ∷ 0 ∷ 0 ∷ 0 ∷ 111 ∷ []) ∷ []) ∷ []) ((a, (0 ∷ 0 ∷ 0 ∷ 0 ∷ 0 ∷ 0 ∷ 0 ∷ 111 ∷ [])) ∷ [])
  pub add_behind_a_later_one_state_1 : LaysTo (holding a (0 ∷ 0 ∷ 0 ∷ 0 ∷ 0 ∷ 0 ∷ 0 ∷ 1 ∷ []) plain) add_behind_a_later_one 1 1 ((a, (0 ∷ 0 ∷ 0 ∷ 0 ∷ 0 ∷ 0 ∷ 0 ∷ 1 ∷ [])) ∷ [])
  pub add_behind_a_later_one_gap_2 : Lacks (holding a (0 ∷ 0 ∷ 0 ∷ 0 ∷ 0 ∷ 0 ∷ 0 ∷ 1 ∷ []) plain) add_behind_a_later_one 2 1
  pub add_behind_a_later_one_state_3 : LaysTo (holding a (0 ∷ 0 ∷ 0 ∷ 0 ∷ 0 ∷ 0 ∷ 0 ∷ 1 ∷ []) plain) add_behind_a_later_one 3 2 ((a, (0 ∷ 0 ∷ 0 ∷ 0 ∷ 0 ∷ 0 ∷ 0 ∷ 111 ∷ [])) ∷ [])

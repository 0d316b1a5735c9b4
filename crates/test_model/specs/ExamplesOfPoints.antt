-- Points of consistency: what a point's part has, whatever transactions are open while it is taken.
-- Made from the text of the worked examples.
use Rattle.std.specs.Prelude.{List, [], ◌∷◌, Some, None}
use Rattle.pc_types.specs.declared.Phase.TheVariants.{Rest, Prepare, Resolve, Capture}
use Rattle.pc_types.specs.declared.Event.TheVariants as asked
use Rattle.pc_types.specs.declared.Reply.TheVariants as told
use Rattle.pc_types.specs.declared.Refusal.TheVariants as why
use Rattle.pc_types.specs.declared.Step.{Step}
use Rattle.test_model.specs.Examples.{step, plain, holding, has, lacks, RunsTo, LaysTo, Lacks, IsNoQuietRun, a, a_in_7, b, k, z, v1, v2, v3, v4, v5, v7, v8, v9}

-- A transaction that begins in prepare and commits after the seal is not in the point.
abbrev pub commit_after_the_point : List Step
commit_after_the_point = step (asked.Begin 1) (told.Begun 1)
    ∷ step (asked.Put 1 a v1) told.Ok
    ∷ step (asked.Commit 1) (told.Committed 1)
    ∷ step asked.StartPoint (told.Phase Prepare 1)
    ∷ step (asked.Begin 1) (told.Begun 2)
    ∷ step (asked.Put 1 a v2) told.Ok
    ∷ step (asked.Begin 2) (told.Begun 3)
    ∷ step (asked.Put 2 b v9) told.Ok
    ∷ step (asked.Commit 2) (told.Committed 3)
    ∷ step asked.Seal (told.Phase Resolve 1)
    ∷ step (asked.Commit 1) (told.Committed 5)
    ∷ step asked.OpenCapture (told.Phase Capture 1)
    ∷ step asked.Take (told.Took a (Some v1))
    ∷ step asked.Take (told.Took b (Some v9))
    ∷ step asked.Take told.NoneLeft
    ∷ step asked.Take told.NoneLeft
    ∷ step asked.Done (told.PartDone 1 1 2)
    ∷ step asked.Rest (told.Phase Rest 1)
    ∷ []

-- The same if that transaction aborts: the file is the same.
abbrev pub abort_after_the_point : List Step
abort_after_the_point = step (asked.Begin 1) (told.Begun 1)
    ∷ step (asked.Put 1 a v1) told.Ok
    ∷ step (asked.Commit 1) (told.Committed 1)
    ∷ step asked.StartPoint (told.Phase Prepare 1)
    ∷ step (asked.Begin 1) (told.Begun 2)
    ∷ step (asked.Put 1 a v2) told.Ok
    ∷ step (asked.Begin 2) (told.Begun 3)
    ∷ step (asked.Put 2 b v9) told.Ok
    ∷ step (asked.Commit 2) (told.Committed 3)
    ∷ step asked.Seal (told.Phase Resolve 1)
    ∷ step (asked.Abort 1) told.Aborted
    ∷ step asked.OpenCapture (told.Phase Capture 1)
    ∷ step asked.Take (told.Took a (Some v1))
    ∷ step asked.Take (told.Took b (Some v9))
    ∷ step asked.Take told.NoneLeft
    ∷ step asked.Take told.NoneLeft
    ∷ step asked.Done (told.PartDone 1 1 2)
    ∷ step asked.Rest (told.Phase Rest 1)
    ∷ []

-- A key of space 7 is another one than that of space 0 with the same byte, and comes after all keys of space 0.
abbrev pub keys_of_two_spaces : List Step
keys_of_two_spaces = step (asked.Begin 1) (told.Begun 1)
    ∷ step (asked.Put 1 a v1) told.Ok
    ∷ step (asked.Put 1 a_in_7 v2) told.Ok
    ∷ step (asked.Put 1 z v3) told.Ok
    ∷ step (asked.Commit 1) (told.Committed 1)
    ∷ step (asked.Begin 1) (told.Begun 2)
    ∷ step (asked.Del 1 a) told.Ok
    ∷ step (asked.Commit 1) (told.Committed 2)
    ∷ step asked.StartPoint (told.Phase Prepare 1)
    ∷ step asked.Seal (told.Phase Resolve 1)
    ∷ step asked.OpenCapture (told.Phase Capture 1)
    ∷ step asked.Take (told.Took a None)
    ∷ step asked.Take (told.Took a_in_7 (Some v2))
    ∷ step asked.Take (told.Took z (Some v3))
    ∷ step asked.Done (told.PartDone 1 1 3)
    ∷ step asked.Rest (told.Phase Rest 1)
    ∷ []

-- Seal waits for the transactions that began before the point was started.
abbrev pub seal_waits_for_before : List Step
seal_waits_for_before = step (asked.Begin 1) (told.Begun 1)
    ∷ step (asked.Put 1 a v1) told.Ok
    ∷ step asked.StartPoint (told.Phase Prepare 1)
    ∷ step asked.Seal (told.NotYet 1)
    ∷ step asked.Seal (told.NotYet 1)
    ∷ step (asked.Commit 1) (told.Committed 2)
    ∷ step asked.Seal (told.Phase Resolve 1)
    ∷ step asked.OpenCapture (told.Phase Capture 1)
    ∷ step asked.Take (told.Took a (Some v1))
    ∷ []

-- A key removed before the point is a tombstone in its part, though it was set again before the Take.
abbrev pub removed_key_becomes_a_tombstone : List Step
removed_key_becomes_a_tombstone = step (asked.Begin 1) (told.Begun 1)
    ∷ step (asked.Del 1 k) told.Ok
    ∷ step (asked.Commit 1) (told.Committed 1)
    ∷ step asked.StartPoint (told.Phase Prepare 1)
    ∷ step asked.Seal (told.Phase Resolve 1)
    ∷ step (asked.Begin 1) (told.Begun 2)
    ∷ step (asked.Put 1 k v8) told.Ok
    ∷ step (asked.Commit 1) (told.Committed 4)
    ∷ step asked.OpenCapture (told.Phase Capture 1)
    ∷ step asked.Take (told.Took k None)
    ∷ step asked.Done (told.PartDone 1 1 1)
    ∷ step (asked.Begin 1) (told.Begun 3)
    ∷ step (asked.Get 1 k) (told.Found v8)
    ∷ []

-- A cycle in which nothing was written has an empty part.
abbrev pub empty_part : List Step
empty_part = step asked.StartPoint (told.Phase Prepare 1)
    ∷ step asked.Seal (told.Phase Resolve 1)
    ∷ step asked.OpenCapture (told.Phase Capture 1)
    ∷ step asked.Take told.NoneLeft
    ∷ step asked.Done (told.PartDone 1 1 0)
    ∷ step asked.Rest (told.Phase Rest 1)
    ∷ []

-- Of a transaction that commits after the seal neither its first nor its second write is in the point.
abbrev pub two_writes_over_the_point : List Step
two_writes_over_the_point = step (asked.Begin 1) (told.Begun 1)
    ∷ step (asked.Put 1 a v1) told.Ok
    ∷ step (asked.Commit 1) (told.Committed 1)
    ∷ step asked.StartPoint (told.Phase Prepare 1)
    ∷ step (asked.Begin 1) (told.Begun 2)
    ∷ step (asked.Put 1 a v2) told.Ok
    ∷ step (asked.Put 1 a v3) told.Ok
    ∷ step asked.Seal (told.Phase Resolve 1)
    ∷ step (asked.Commit 1) (told.Committed 4)
    ∷ step asked.OpenCapture (told.Phase Capture 1)
    ∷ step asked.Take (told.Took a (Some v1))
    ∷ step asked.Done (told.PartDone 1 1 1)
    ∷ []

-- A write of a taken key that is aborted in capture leaves no trace, and Rest waits for what began in capture.
abbrev pub abort_in_capture : List Step
abort_in_capture = step (asked.Begin 1) (told.Begun 1)
    ∷ step (asked.Put 1 a v1) told.Ok
    ∷ step (asked.Commit 1) (told.Committed 1)
    ∷ step asked.StartPoint (told.Phase Prepare 1)
    ∷ step asked.Seal (told.Phase Resolve 1)
    ∷ step asked.OpenCapture (told.Phase Capture 1)
    ∷ step asked.Take (told.Took a (Some v1))
    ∷ step (asked.Begin 1) (told.Begun 2)
    ∷ step (asked.Put 1 a v5) told.Ok
    ∷ step (asked.Abort 1) told.Aborted
    ∷ step (asked.Begin 1) (told.Begun 3)
    ∷ step (asked.Get 1 a) (told.Found v1)
    ∷ step asked.Done (told.PartDone 1 1 1)
    ∷ step asked.Rest (told.NotYet 1)
    ∷ step (asked.Commit 1) (told.Committed 6)
    ∷ step asked.Rest (told.Phase Rest 1)
    ∷ []

-- A removal of a key that was never there is a write: a tombstone is taken.
abbrev pub removal_of_a_missing_key : List Step
removal_of_a_missing_key = step (asked.Begin 1) (told.Begun 1)
    ∷ step (asked.Del 1 z) told.Ok
    ∷ step (asked.Commit 1) (told.Committed 1)
    ∷ step asked.StartPoint (told.Phase Prepare 1)
    ∷ step asked.Seal (told.Phase Resolve 1)
    ∷ step asked.OpenCapture (told.Phase Capture 1)
    ∷ step asked.Take (told.Took z None)
    ∷ step asked.Done (told.PartDone 1 1 1)
    ∷ []

-- Of two transactions that begin in prepare the one that commits before the seal is in the point, the other isn't.
abbrev pub commits_before_and_after_the_seal : List Step
commits_before_and_after_the_seal = step (asked.Begin 1) (told.Begun 1)
    ∷ step (asked.Put 1 a v1) told.Ok
    ∷ step (asked.Commit 1) (told.Committed 1)
    ∷ step asked.StartPoint (told.Phase Prepare 1)
    ∷ step (asked.Begin 1) (told.Begun 2)
    ∷ step (asked.Put 1 a v2) told.Ok
    ∷ step (asked.Commit 1) (told.Committed 3)
    ∷ step (asked.Begin 1) (told.Begun 3)
    ∷ step (asked.Put 1 a v3) told.Ok
    ∷ step asked.Seal (told.Phase Resolve 1)
    ∷ step (asked.Commit 1) (told.Committed 5)
    ∷ step asked.OpenCapture (told.Phase Capture 1)
    ∷ step asked.Done (told.NotYet 1)
    ∷ step asked.Take (told.Took a (Some v2))
    ∷ step asked.Done (told.PartDone 1 1 1)
    ∷ []

-- A write aborted in prepare hides no later commit of the key before the seal.
abbrev pub abort_in_prepare : List Step
abort_in_prepare = step (asked.Begin 1) (told.Begun 1)
    ∷ step asked.StartPoint (told.Phase Prepare 1)
    ∷ step (asked.Begin 2) (told.Begun 2)
    ∷ step (asked.Put 2 a v5) told.Ok
    ∷ step (asked.Abort 2) told.Aborted
    ∷ step (asked.Put 1 a v7) told.Ok
    ∷ step (asked.Commit 1) (told.Committed 2)
    ∷ step asked.Seal (told.Phase Resolve 1)
    ∷ step asked.OpenCapture (told.Phase Capture 1)
    ∷ step asked.Take (told.Took a (Some v7))
    ∷ step asked.Done (told.PartDone 1 1 1)
    ∷ []

-- Keys written only after the seal, by transactions that began before it and after it, are in the next part.
abbrev pub first_written_after_the_point : List Step
first_written_after_the_point = step asked.StartPoint (told.Phase Prepare 1)
    ∷ step (asked.Begin 1) (told.Begun 1)
    ∷ step asked.Seal (told.Phase Resolve 1)
    ∷ step (asked.Begin 2) (told.Begun 2)
    ∷ step (asked.Put 2 k v3) told.Ok
    ∷ step (asked.Commit 2) (told.Committed 3)
    ∷ step (asked.Put 1 k v4) told.Ok
    ∷ step asked.OpenCapture (told.NotYet 1)
    ∷ step (asked.Commit 1) (told.Committed 4)
    ∷ step asked.OpenCapture (told.Phase Capture 1)
    ∷ step asked.Take told.NoneLeft
    ∷ step asked.Done (told.PartDone 1 1 0)
    ∷ step asked.Rest (told.Phase Rest 1)
    ∷ step asked.StartPoint (told.Phase Prepare 2)
    ∷ step asked.Seal (told.Phase Resolve 2)
    ∷ step asked.OpenCapture (told.Phase Capture 2)
    ∷ step asked.Take (told.Took k (Some v4))
    ∷ step asked.Done (told.PartDone 2 2 1)
    ∷ step (asked.Join 1 2) (told.File 3 (1 ∷ 2 ∷ []) 1)
    ∷ []

-- Transactions that begin in resolve and capture are of one class, those of complete and rest of another.
abbrev pub classes_by_the_phase_of_begin : List Step
classes_by_the_phase_of_begin = step asked.StartPoint (told.Phase Prepare 1)
    ∷ step (asked.Begin 1) (told.Begun 1)
    ∷ step asked.Seal (told.Phase Resolve 1)
    ∷ step (asked.Begin 2) (told.Begun 2)
    ∷ step asked.OpenCapture (told.NotYet 1)
    ∷ step (asked.Commit 1) (told.Committed 3)
    ∷ step asked.OpenCapture (told.Phase Capture 1)
    ∷ step (asked.Begin 4) (told.Begun 3)
    ∷ step asked.Done (told.PartDone 1 1 0)
    ∷ step (asked.Begin 3) (told.Begun 4)
    ∷ step asked.Rest (told.NotYet 2)
    ∷ step (asked.Commit 2) (told.Committed 6)
    ∷ step asked.Rest (told.NotYet 1)
    ∷ step (asked.Abort 4) told.Aborted
    ∷ step asked.Rest (told.Phase Rest 1)
    ∷ step asked.StartPoint (told.Phase Prepare 2)
    ∷ step asked.Seal (told.NotYet 1)
    ∷ step asked.OpenCapture (told.Refused why.WrongPhase)
    ∷ step (asked.Commit 3) (told.Committed 9)
    ∷ step asked.Seal (told.Phase Resolve 2)
    ∷ []

-- A key written between Seal and its Take is taken with the point's content, and again at the next point.
abbrev pub taken_again_in_the_next_cycle : List Step
taken_again_in_the_next_cycle = step (asked.Begin 1) (told.Begun 1)
    ∷ step (asked.Put 1 a v1) told.Ok
    ∷ step (asked.Put 1 b v1) told.Ok
    ∷ step (asked.Commit 1) (told.Committed 1)
    ∷ step asked.StartPoint (told.Phase Prepare 1)
    ∷ step asked.Seal (told.Phase Resolve 1)
    ∷ step (asked.Begin 1) (told.Begun 2)
    ∷ step (asked.Put 1 b v2) told.Ok
    ∷ step (asked.Commit 1) (told.Committed 4)
    ∷ step asked.OpenCapture (told.Phase Capture 1)
    ∷ step asked.Take (told.Took a (Some v1))
    ∷ step (asked.Begin 2) (told.Begun 3)
    ∷ step (asked.Del 2 a) told.Ok
    ∷ step (asked.Commit 2) (told.Committed 6)
    ∷ step asked.Take (told.Took b (Some v1))
    ∷ step asked.Done (told.PartDone 1 1 2)
    ∷ step asked.Rest (told.Phase Rest 1)
    ∷ step asked.StartPoint (told.Phase Prepare 2)
    ∷ step asked.Seal (told.Phase Resolve 2)
    ∷ step asked.OpenCapture (told.Phase Capture 2)
    ∷ step asked.Take (told.Took b (Some v2))
    ∷ step asked.Take (told.Took a None)
    ∷ step asked.Done (told.PartDone 2 2 2)
    ∷ step (asked.Join 2 1) (told.File 3 (1 ∷ 2 ∷ []) 2)
    ∷ []

-- Points of consistency: what a point's part has, whatever transactions are open while it is taken.
pub record ExamplesOfPoints : Type 0 where
  pub commit_after_the_point_runs : RunsTo plain commit_after_the_point ((1 ∷ [], has a 1 v1 ∷ has b 1 v9 ∷ []) ∷ []) ((a, v2) ∷ (b, v9) ∷ [])
  pub commit_after_the_point_state_1 : LaysTo plain commit_after_the_point 1 1 ((a, v1) ∷ (b, v9) ∷ [])
  pub commit_after_the_point_is_not_quiet : IsNoQuietRun plain commit_after_the_point
  pub abort_after_the_point_runs : RunsTo plain abort_after_the_point ((1 ∷ [], has a 1 v1 ∷ has b 1 v9 ∷ []) ∷ []) ((a, v1) ∷ (b, v9) ∷ [])
  pub abort_after_the_point_state_1 : LaysTo plain abort_after_the_point 1 1 ((a, v1) ∷ (b, v9) ∷ [])
  pub keys_of_two_spaces_runs : RunsTo plain keys_of_two_spaces ((1 ∷ [], lacks a 1 ∷ has z 1 v3 ∷ has a_in_7 1 v2 ∷ []) ∷ []) ((z, v3) ∷ (a_in_7, v2) ∷ [])
  pub keys_of_two_spaces_state_1 : LaysTo plain keys_of_two_spaces 1 1 ((z, v3) ∷ (a_in_7, v2) ∷ [])
  pub seal_waits_for_before_runs : RunsTo plain seal_waits_for_before ([]) ((a, v1) ∷ [])
  pub removed_key_becomes_a_tombstone_runs : RunsTo (holding k v7 plain) removed_key_becomes_a_tombstone ((1 ∷ [], lacks k 1 ∷ []) ∷ []) ((k, v8) ∷ [])
  pub removed_key_becomes_a_tombstone_state_1 : LaysTo (holding k v7 plain) removed_key_becomes_a_tombstone 1 1 ([])
  pub empty_part_runs : RunsTo plain empty_part ((1 ∷ [], []) ∷ []) ([])
  pub empty_part_state_1 : LaysTo plain empty_part 1 1 ([])
  pub two_writes_over_the_point_runs : RunsTo plain two_writes_over_the_point ((1 ∷ [], has a 1 v1 ∷ []) ∷ []) ((a, v3) ∷ [])
  pub two_writes_over_the_point_state_1 : LaysTo plain two_writes_over_the_point 1 1 ((a, v1) ∷ [])
  pub abort_in_capture_runs : RunsTo plain abort_in_capture ((1 ∷ [], has a 1 v1 ∷ []) ∷ []) ((a, v1) ∷ [])
  pub abort_in_capture_state_1 : LaysTo plain abort_in_capture 1 1 ((a, v1) ∷ [])
  pub removal_of_a_missing_key_runs : RunsTo plain removal_of_a_missing_key ((1 ∷ [], lacks z 1 ∷ []) ∷ []) ([])
  pub removal_of_a_missing_key_state_1 : LaysTo plain removal_of_a_missing_key 1 1 ([])
  pub commits_before_and_after_the_seal_runs : RunsTo plain commits_before_and_after_the_seal ((1 ∷ [], has a 1 v2 ∷ []) ∷ []) ((a, v3) ∷ [])
  pub commits_before_and_after_the_seal_state_1 : LaysTo plain commits_before_and_after_the_seal 1 1 ((a, v2) ∷ [])
  pub abort_in_prepare_runs : RunsTo (holding a v1 plain) abort_in_prepare ((1 ∷ [], has a 1 v7 ∷ []) ∷ []) ((a, v7) ∷ [])
  pub abort_in_prepare_state_1 : LaysTo (holding a v1 plain) abort_in_prepare 1 1 ((a, v7) ∷ [])
  pub abort_in_prepare_is_not_quiet : IsNoQuietRun (holding a v1 plain) abort_in_prepare
  pub first_written_after_the_point_runs : RunsTo plain first_written_after_the_point ((1 ∷ [], []) ∷ (2 ∷ [], has k 2 v4 ∷ []) ∷ (1 ∷ 2 ∷ [], has k 2 v4 ∷ []) ∷ []) ((k, v4) ∷ [])
  pub first_written_after_the_point_gap_2 : Lacks plain first_written_after_the_point 2 1
  pub first_written_after_the_point_state_3 : LaysTo plain first_written_after_the_point 3 2 ((k, v4) ∷ [])
  pub classes_by_the_phase_of_begin_runs : RunsTo plain classes_by_the_phase_of_begin ((1 ∷ [], []) ∷ []) ([])
  pub classes_by_the_phase_of_begin_state_1 : LaysTo plain classes_by_the_phase_of_begin 1 1 ([])
  pub taken_again_in_the_next_cycle_runs : RunsTo plain taken_again_in_the_next_cycle ((1 ∷ [], has a 1 v1 ∷ has b 1 v1 ∷ []) ∷ (2 ∷ [], lacks a 2 ∷ has b 2 v2 ∷ []) ∷ (1 ∷ 2 ∷ [], lacks a 2 ∷ has b 2 v2 ∷ []) ∷ []) ((b, v2) ∷ [])
  pub taken_again_in_the_next_cycle_state_1 : LaysTo plain taken_again_in_the_next_cycle 1 1 ((a, v1) ∷ (b, v1) ∷ [])
  pub taken_again_in_the_next_cycle_state_3 : LaysTo plain taken_again_in_the_next_cycle 3 2 ((b, v2) ∷ [])

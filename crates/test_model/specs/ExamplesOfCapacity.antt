-- Capacity: which keys are occupied, and when Full is answered.
-- Made from the text of the worked examples.
use Rattle.std.specs.Prelude.{List, [], ◌∷◌, None}
use Rattle.pc_types.specs.declared.Phase.TheVariants.{Rest, Prepare, Resolve, Capture}
use Rattle.pc_types.specs.declared.Event.TheVariants as asked
use Rattle.pc_types.specs.declared.Reply.TheVariants as told
use Rattle.pc_types.specs.declared.Refusal.TheVariants as why
use Rattle.pc_types.specs.declared.Step.{Step}
use Rattle.test_model.specs.Examples.{step, plain, holding, with_room_for, lacks, RunsTo, LaysTo, a, b, k, x, y, v1, v2, v3, v5}

-- A key that was removed is occupied until it is taken.
abbrev pub removed_key_is_occupied_until_taken : List Step
removed_key_is_occupied_until_taken = step (asked.Begin 1) (told.Begun 1)
    ∷ step (asked.Put 1 a v1) told.Ok
    ∷ step (asked.Commit 1) (told.Committed 1)
    ∷ step (asked.Begin 1) (told.Begun 2)
    ∷ step (asked.Del 1 a) told.Ok
    ∷ step (asked.Commit 1) (told.Committed 2)
    ∷ step (asked.Begin 1) (told.Begun 3)
    ∷ step (asked.Put 1 b v2) (told.Refused why.Full)
    ∷ step (asked.Abort 1) told.Aborted
    ∷ step asked.StartPoint (told.Phase Prepare 1)
    ∷ step asked.Seal (told.Phase Resolve 1)
    ∷ step asked.OpenCapture (told.Phase Capture 1)
    ∷ step asked.Take (told.Took a None)
    ∷ step (asked.Begin 1) (told.Begun 4)
    ∷ step (asked.Put 1 b v2) told.Ok
    ∷ step (asked.Commit 1) (told.Committed 6)
    ∷ []

-- A read of a missing key occupies it until its transaction ends.
abbrev pub read_key_is_occupied_until_the_end : List Step
read_key_is_occupied_until_the_end = step (asked.Begin 1) (told.Begun 1)
    ∷ step (asked.Get 1 x) told.Absent
    ∷ step (asked.Put 1 y v1) (told.Refused why.Full)
    ∷ step (asked.Abort 1) told.Aborted
    ∷ step (asked.Begin 1) (told.Begun 2)
    ∷ step (asked.Put 1 y v1) told.Ok
    ∷ step (asked.Commit 1) (told.Committed 1)
    ∷ []

-- A removed key is occupied in rest, prepare and resolve, and free once taken; reads and removals may be Full too.
abbrev pub occupied_over_a_cycle : List Step
occupied_over_a_cycle = step (asked.Begin 1) (told.Begun 1)
    ∷ step (asked.Put 1 a v1) told.Ok
    ∷ step (asked.Commit 1) (told.Committed 1)
    ∷ step (asked.Begin 1) (told.Begun 2)
    ∷ step (asked.Del 1 a) told.Ok
    ∷ step (asked.Commit 1) (told.Committed 2)
    ∷ step asked.StartPoint (told.Phase Prepare 1)
    ∷ step (asked.Begin 1) (told.Begun 3)
    ∷ step (asked.Put 1 b v2) (told.Refused why.Full)
    ∷ step (asked.Abort 1) told.Aborted
    ∷ step asked.Seal (told.Phase Resolve 1)
    ∷ step (asked.Begin 1) (told.Begun 4)
    ∷ step (asked.Put 1 b v2) (told.Refused why.Full)
    ∷ step asked.OpenCapture (told.Phase Capture 1)
    ∷ step asked.Take (told.Took a None)
    ∷ step (asked.Put 1 b v2) told.Ok
    ∷ step (asked.Abort 1) told.Aborted
    ∷ step asked.Done (told.PartDone 1 1 1)
    ∷ step asked.Rest (told.Phase Rest 1)
    ∷ step (asked.Begin 1) (told.Begun 5)
    ∷ step (asked.Put 1 b v3) told.Ok
    ∷ step (asked.Put 1 x v1) (told.Refused why.Full)
    ∷ step (asked.Get 1 x) (told.Refused why.Full)
    ∷ step (asked.Del 1 x) (told.Refused why.Full)
    ∷ step (asked.Commit 1) (told.Committed 8)
    ∷ []

-- The base's keys are occupied from the start, and those of an aborted transaction are free again.
abbrev pub keys_of_the_base_are_occupied : List Step
keys_of_the_base_are_occupied = step (asked.Begin 1) (told.Begun 1)
    ∷ step (asked.Begin 2) (told.Begun 2)
    ∷ step (asked.Put 1 a v1) told.Ok
    ∷ step (asked.Get 2 x) (told.Refused why.Full)
    ∷ step (asked.Put 2 a v2) told.Died
    ∷ step (asked.Abort 2) told.Aborted
    ∷ step (asked.Begin 2) (told.Begun 3)
    ∷ step (asked.Abort 1) told.Aborted
    ∷ step (asked.Get 2 x) told.Absent
    ∷ step (asked.Get 2 a) (told.Refused why.Full)
    ∷ step (asked.Get 2 k) (told.Found v5)
    ∷ step (asked.Commit 2) (told.Committed 1)
    ∷ []

-- Capacity: which keys are occupied, and when Full is answered.
pub record ExamplesOfCapacity : Type 0 where
  pub removed_key_is_occupied_until_taken_runs : RunsTo (with_room_for 1 plain) removed_key_is_occupied_until_taken ([]) ((b, v2) ∷ [])
  pub read_key_is_occupied_until_the_end_runs : RunsTo (with_room_for 1 plain) read_key_is_occupied_until_the_end ([]) ((y, v1) ∷ [])
  pub occupied_over_a_cycle_runs : RunsTo (with_room_for 1 plain) occupied_over_a_cycle ((1 ∷ [], lacks a 1 ∷ []) ∷ []) ((b, v3) ∷ [])
  pub occupied_over_a_cycle_state_1 : LaysTo (with_room_for 1 plain) occupied_over_a_cycle 1 1 ([])
  pub keys_of_the_base_are_occupied_runs : RunsTo (holding k v5 (with_room_for 2 plain)) keys_of_the_base_are_occupied ([]) ((k, v5) ∷ [])

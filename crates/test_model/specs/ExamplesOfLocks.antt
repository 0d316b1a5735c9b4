-- Locks: who waits, who dies, and what is granted when a transaction ends.
-- Made from the text of the worked examples.
use Rattle.std.specs.Prelude.{List, [], ◌∷◌}
use Rattle.pc_types.specs.declared.Event.TheVariants as asked
use Rattle.pc_types.specs.declared.Reply.TheVariants as told
use Rattle.pc_types.specs.declared.Refusal.TheVariants as why
use Rattle.pc_types.specs.declared.Step.{Step}
use Rattle.test_model.specs.Examples.{step, plain, holding, RunsTo, a, b, k, x, v1, v2, v3, v4, v5, v6, v7, v8, v9}

-- An older transaction waits for a younger one's lock, and finds it held once that one has committed.
abbrev pub older_waits : List Step
older_waits = step (asked.Begin 1) (told.Begun 1)
    ∷ step (asked.Begin 2) (told.Begun 2)
    ∷ step (asked.Put 2 k v6) told.Ok
    ∷ step (asked.Get 1 k) told.Wait
    ∷ step (asked.Get 1 k) (told.Refused why.StillWaiting)
    ∷ step (asked.Commit 2) (told.Committed 1)
    ∷ step (asked.Get 1 k) (told.Found v6)
    ∷ step (asked.Commit 1) (told.Committed 2)
    ∷ []

-- A younger transaction dies of an older one's lock, and accepts only Abort.
abbrev pub younger_dies : List Step
younger_dies = step (asked.Begin 1) (told.Begun 1)
    ∷ step (asked.Begin 2) (told.Begun 2)
    ∷ step (asked.Put 1 k v6) told.Ok
    ∷ step (asked.Get 2 k) told.Died
    ∷ step (asked.Get 2 k) (told.Refused why.MustAbort)
    ∷ step (asked.Commit 2) (told.Refused why.MustAbort)
    ∷ step (asked.Abort 2) told.Aborted
    ∷ step (asked.Commit 1) (told.Committed 1)
    ∷ []

-- An upgrade next to another granted lock dies, also of the older transaction; the other then upgrades.
abbrev pub upgrade_beside_another_reader_dies : List Step
upgrade_beside_another_reader_dies = step (asked.Begin 1) (told.Begun 1)
    ∷ step (asked.Begin 2) (told.Begun 2)
    ∷ step (asked.Get 1 k) (told.Found v5)
    ∷ step (asked.Get 2 k) (told.Found v5)
    ∷ step (asked.Put 1 k v6) told.Died
    ∷ step (asked.Abort 1) told.Aborted
    ∷ step (asked.Put 2 k v7) told.Ok
    ∷ step (asked.Commit 2) (told.Committed 1)
    ∷ []

-- Two readers that wait are granted together; then one's upgrade dies, and the other's is granted.
abbrev pub waiting_readers_are_granted_together : List Step
waiting_readers_are_granted_together = step (asked.Begin 1) (told.Begun 1)
    ∷ step (asked.Begin 2) (told.Begun 2)
    ∷ step (asked.Begin 3) (told.Begun 3)
    ∷ step (asked.Put 3 k v1) told.Ok
    ∷ step (asked.Get 2 k) told.Wait
    ∷ step (asked.Get 1 k) told.Wait
    ∷ step (asked.Commit 3) (told.Committed 1)
    ∷ step (asked.Get 1 k) (told.Found v1)
    ∷ step (asked.Get 2 k) (told.Found v1)
    ∷ step (asked.Put 2 k v4) told.Died
    ∷ step (asked.Abort 2) told.Aborted
    ∷ step (asked.Put 1 k v9) told.Ok
    ∷ step (asked.Commit 1) (told.Committed 2)
    ∷ []

-- A death is forgotten with its transaction, and all its locks go with it.
abbrev pub death_ends_with_its_transaction : List Step
death_ends_with_its_transaction = step (asked.Begin 1) (told.Begun 1)
    ∷ step (asked.Begin 2) (told.Begun 2)
    ∷ step (asked.Put 1 k v6) told.Ok
    ∷ step (asked.Get 2 k) told.Died
    ∷ step (asked.Abort 2) told.Aborted
    ∷ step (asked.Begin 2) (told.Begun 3)
    ∷ step (asked.Get 2 a) told.Absent
    ∷ step (asked.Put 2 k v7) told.Died
    ∷ step (asked.Get 2 a) (told.Refused why.MustAbort)
    ∷ step (asked.Abort 2) told.Aborted
    ∷ step (asked.Commit 1) (told.Committed 1)
    ∷ step (asked.Begin 2) (told.Begun 4)
    ∷ step (asked.Put 2 k v8) told.Ok
    ∷ step (asked.Begin 1) (told.Begun 5)
    ∷ step (asked.Get 1 k) told.Died
    ∷ step (asked.Abort 2) told.Aborted
    ∷ step (asked.Begin 2) (told.Begun 6)
    ∷ step (asked.Get 2 k) (told.Found v6)
    ∷ step (asked.Commit 2) (told.Committed 2)
    ∷ step (asked.Abort 1) told.Aborted
    ∷ []

-- Several requests wait for one key; an abort takes a waiting one away; an upgrade excludes younger readers.
abbrev pub several_wait : List Step
several_wait = step (asked.Begin 1) (told.Begun 1)
    ∷ step (asked.Begin 2) (told.Begun 2)
    ∷ step (asked.Begin 3) (told.Begun 3)
    ∷ step (asked.Begin 4) (told.Begun 4)
    ∷ step (asked.Get 4 k) (told.Found v5)
    ∷ step (asked.Get 3 k) (told.Found v5)
    ∷ step (asked.Put 2 k v1) told.Wait
    ∷ step (asked.Put 1 k v2) told.Wait
    ∷ step (asked.Get 1 k) (told.Refused why.StillWaiting)
    ∷ step (asked.Commit 1) (told.Refused why.StillWaiting)
    ∷ step (asked.Abort 1) told.Aborted
    ∷ step (asked.Abort 4) told.Aborted
    ∷ step (asked.Get 2 k) (told.Refused why.StillWaiting)
    ∷ step (asked.Abort 3) told.Aborted
    ∷ step (asked.Get 2 k) (told.Found v5)
    ∷ step (asked.Put 2 k v3) told.Ok
    ∷ step (asked.Commit 2) (told.Committed 1)
    ∷ step (asked.Begin 1) (told.Begun 5)
    ∷ step (asked.Get 1 k) (told.Found v3)
    ∷ step (asked.Put 1 k v7) told.Ok
    ∷ step (asked.Begin 2) (told.Begun 6)
    ∷ step (asked.Get 2 k) told.Died
    ∷ step (asked.Abort 2) told.Aborted
    ∷ step (asked.Commit 1) (told.Committed 2)
    ∷ []

-- A lock of one key is held over reads and writes of others, and waits on one key hinder no other.
abbrev pub locks_stand_until_the_end : List Step
locks_stand_until_the_end = step (asked.Begin 1) (told.Begun 1)
    ∷ step (asked.Begin 2) (told.Begun 2)
    ∷ step (asked.Get 2 a) told.Absent
    ∷ step (asked.Put 2 b v2) told.Ok
    ∷ step (asked.Get 1 b) told.Wait
    ∷ step (asked.Get 2 x) told.Absent
    ∷ step (asked.Put 2 a v1) told.Ok
    ∷ step (asked.Commit 2) (told.Committed 1)
    ∷ step (asked.Get 1 b) (told.Found v2)
    ∷ step (asked.Get 1 a) (told.Found v1)
    ∷ step (asked.Commit 1) (told.Committed 2)
    ∷ []

-- Which transaction is older goes by their begins, not by their sessions.
abbrev pub age_goes_by_begin : List Step
age_goes_by_begin = step (asked.Begin 2) (told.Begun 1)
    ∷ step (asked.Begin 1) (told.Begun 2)
    ∷ step (asked.Put 1 k v6) told.Ok
    ∷ step (asked.Put 2 k v7) told.Wait
    ∷ step (asked.Abort 1) told.Aborted
    ∷ step (asked.Put 2 k v7) told.Ok
    ∷ step (asked.Get 2 k) (told.Found v7)
    ∷ step (asked.Begin 1) (told.Begun 3)
    ∷ step (asked.Get 1 k) told.Died
    ∷ step (asked.Abort 1) told.Aborted
    ∷ step (asked.Commit 2) (told.Committed 1)
    ∷ []

-- A request that died is in no queue: once the lock is free, a younger transaction may have it.
abbrev pub death_leaves_no_request : List Step
death_leaves_no_request = step (asked.Begin 1) (told.Begun 1)
    ∷ step (asked.Begin 2) (told.Begun 2)
    ∷ step (asked.Put 1 k v6) told.Ok
    ∷ step (asked.Get 2 k) told.Died
    ∷ step (asked.Commit 1) (told.Committed 1)
    ∷ step (asked.Begin 1) (told.Begun 3)
    ∷ step (asked.Put 1 k v7) told.Ok
    ∷ step (asked.Abort 2) told.Aborted
    ∷ step (asked.Commit 1) (told.Committed 2)
    ∷ []

-- Locks: who waits, who dies, and what is granted when a transaction ends.
pub record ExamplesOfLocks : Type 0 where
  pub older_waits_runs : RunsTo (holding k v5 plain) older_waits ([]) ((k, v6) ∷ [])
  pub younger_dies_runs : RunsTo (holding k v5 plain) younger_dies ([]) ((k, v6) ∷ [])
  pub upgrade_beside_another_reader_dies_runs : RunsTo (holding k v5 plain) upgrade_beside_another_reader_dies ([]) ((k, v7) ∷ [])
  pub waiting_readers_are_granted_together_runs : RunsTo (holding k v5 plain) waiting_readers_are_granted_together ([]) ((k, v9) ∷ [])
  pub death_ends_with_its_transaction_runs : RunsTo (holding k v5 plain) death_ends_with_its_transaction ([]) ((k, v6) ∷ [])
  pub several_wait_runs : RunsTo (holding k v5 plain) several_wait ([]) ((k, v7) ∷ [])
  pub locks_stand_until_the_end_runs : RunsTo plain locks_stand_until_the_end ([]) ((a, v1) ∷ (b, v2) ∷ [])
  pub age_goes_by_begin_runs : RunsTo (holding k v5 plain) age_goes_by_begin ([]) ((k, v7) ∷ [])
  pub death_leaves_no_request_runs : RunsTo (holding k v5 plain) death_leaves_no_request ([]) ((k, v7) ∷ [])

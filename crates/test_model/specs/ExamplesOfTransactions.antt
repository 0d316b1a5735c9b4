-- Transactions of one session or two: what they read, and what their commits leave.
-- Made from the text of the worked examples.
use Rattle.std.specs.Prelude.{List, [], ◌∷◌, Some}
use Rattle.pc_types.specs.declared.Phase.TheVariants.{Prepare, Resolve, Capture}
use Rattle.pc_types.specs.declared.Event.TheVariants as asked
use Rattle.pc_types.specs.declared.Reply.TheVariants as told
use Rattle.pc_types.specs.declared.Step.{Step}
use Rattle.test_model.specs.Examples.{step, plain, holding, has, RunsTo, LaysTo, a, b, k, x, v1, v2, v3, v5, v6}

-- A transaction reads what it wrote, and a later one what the first one committed.
abbrev pub one_session : List Step
one_session = step (asked.Begin 1) (told.Begun 1)
    ∷ step (asked.Get 1 a) told.Absent
    ∷ step (asked.Put 1 a v1) told.Ok
    ∷ step (asked.Get 1 a) (told.Found v1)
    ∷ step (asked.Commit 1) (told.Committed 1)
    ∷ step (asked.Begin 1) (told.Begun 2)
    ∷ step (asked.Get 1 a) (told.Found v1)
    ∷ step (asked.Commit 1) (told.Committed 2)
    ∷ []

-- A commit that wrote nothing has its entry in the log all the same.
abbrev pub commit_of_nothing : List Step
commit_of_nothing = step (asked.Begin 1) (told.Begun 1)
    ∷ step (asked.Commit 1) (told.Committed 1)
    ∷ []

-- A read sees the transaction's own removal, and an abort takes it back.
abbrev pub read_after_own_removal : List Step
read_after_own_removal = step (asked.Begin 1) (told.Begun 1)
    ∷ step (asked.Get 1 k) (told.Found v5)
    ∷ step (asked.Del 1 k) told.Ok
    ∷ step (asked.Get 1 k) told.Absent
    ∷ step (asked.Put 1 k v6) told.Ok
    ∷ step (asked.Get 1 k) (told.Found v6)
    ∷ step (asked.Del 1 k) told.Ok
    ∷ step (asked.Abort 1) told.Aborted
    ∷ step (asked.Begin 1) (told.Begun 2)
    ∷ step (asked.Get 1 k) (told.Found v5)
    ∷ step (asked.Commit 1) (told.Committed 1)
    ∷ []

-- Keys are taken in the order of their first writes, with the values of their last.
abbrev pub order_of_first_writes : List Step
order_of_first_writes = step (asked.Begin 1) (told.Begun 1)
    ∷ step (asked.Put 1 b v1) told.Ok
    ∷ step (asked.Put 1 a v1) told.Ok
    ∷ step (asked.Put 1 b v2) told.Ok
    ∷ step (asked.Del 1 x) told.Ok
    ∷ step (asked.Put 1 x v3) told.Ok
    ∷ step (asked.Commit 1) (told.Committed 1)
    ∷ step asked.StartPoint (told.Phase Prepare 1)
    ∷ step asked.Seal (told.Phase Resolve 1)
    ∷ step asked.OpenCapture (told.Phase Capture 1)
    ∷ step asked.Take (told.Took b (Some v2))
    ∷ step asked.Take (told.Took a (Some v1))
    ∷ step asked.Take (told.Took x (Some v3))
    ∷ step asked.Done (told.PartDone 1 1 3)
    ∷ []

-- A transaction has no write of the one before it in its session, and numbers go on over aborts.
abbrev pub aborted_writes_are_forgotten : List Step
aborted_writes_are_forgotten = step (asked.Begin 1) (told.Begun 1)
    ∷ step (asked.Put 1 a v1) told.Ok
    ∷ step (asked.Put 1 b v1) told.Ok
    ∷ step (asked.Abort 1) told.Aborted
    ∷ step (asked.Begin 1) (told.Begun 2)
    ∷ step (asked.Get 1 a) told.Absent
    ∷ step (asked.Put 1 b v2) told.Ok
    ∷ step (asked.Commit 1) (told.Committed 1)
    ∷ step asked.StartPoint (told.Phase Prepare 1)
    ∷ step asked.Seal (told.Phase Resolve 1)
    ∷ step asked.OpenCapture (told.Phase Capture 1)
    ∷ step asked.Take (told.Took b (Some v2))
    ∷ step asked.Take told.NoneLeft
    ∷ step asked.Done (told.PartDone 1 1 1)
    ∷ []

-- Transactions of one session or two: what they read, and what their commits leave.
pub record ExamplesOfTransactions : Type 0 where
  pub one_session_runs : RunsTo plain one_session ([]) ((a, v1) ∷ [])
  pub commit_of_nothing_runs : RunsTo plain commit_of_nothing ([]) ([])
  pub read_after_own_removal_runs : RunsTo (holding k v5 plain) read_after_own_removal ([]) ((k, v5) ∷ [])
  pub order_of_first_writes_runs : RunsTo plain order_of_first_writes ((1 ∷ [], has a 1 v1 ∷ has b 1 v2 ∷ has x 1 v3 ∷ []) ∷ []) ((a, v1) ∷ (b, v2) ∷ (x, v3) ∷ [])
  pub order_of_first_writes_state_1 : LaysTo plain order_of_first_writes 1 1 ((a, v1) ∷ (b, v2) ∷ (x, v3) ∷ [])
  pub aborted_writes_are_forgotten_runs : RunsTo plain aborted_writes_are_forgotten ((1 ∷ [], has b 1 v2 ∷ []) ∷ []) ((b, v2) ∷ [])
  pub aborted_writes_are_forgotten_state_1 : LaysTo plain aborted_writes_are_forgotten 1 1 ((b, v2) ∷ [])

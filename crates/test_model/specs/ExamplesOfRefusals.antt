-- Refusals: which one is answered if several could be.
-- Made from the text of the worked examples.
use Rattle.std.specs.Prelude.{List, [], ◌∷◌, Some}
use Rattle.pc_types.specs.declared.Phase.TheVariants.{Rest, Prepare, Resolve, Capture}
use Rattle.pc_types.specs.declared.Event.TheVariants as asked
use Rattle.pc_types.specs.declared.Reply.TheVariants as told
use Rattle.pc_types.specs.declared.Refusal.TheVariants as why
use Rattle.pc_types.specs.declared.Step.{Step}
use Rattle.test_model.specs.Examples.{step, plain, with_sessions, has, RunsTo, LaysTo, a, k, v1}

-- No session, no transaction, a second Begin, and a Take outside capture.
abbrev pub refusals_at_rest : List Step
refusals_at_rest = step (asked.Get 9 k) (told.Refused why.NoSession)
    ∷ step (asked.Get 1 k) (told.Refused why.NoTransaction)
    ∷ step (asked.Begin 1) (told.Begun 1)
    ∷ step (asked.Begin 1) (told.Refused why.AlreadyBegun)
    ∷ step asked.Take (told.Refused why.WrongPhase)
    ∷ []

-- WrongPhase comes before NotYet, NoSession before NoTransaction; there is no session 0 and no file 0.
abbrev pub order_of_refusals : List Step
order_of_refusals = step (asked.Begin 1) (told.Begun 1)
    ∷ step asked.Seal (told.Refused why.WrongPhase)
    ∷ step asked.OpenCapture (told.Refused why.WrongPhase)
    ∷ step asked.Rest (told.Refused why.WrongPhase)
    ∷ step asked.Done (told.Refused why.WrongPhase)
    ∷ step (asked.Get 0 k) (told.Refused why.NoSession)
    ∷ step (asked.Get 3 k) (told.Refused why.NoSession)
    ∷ step (asked.Begin 3) (told.Refused why.NoSession)
    ∷ step (asked.Commit 2) (told.Refused why.NoTransaction)
    ∷ step (asked.Abort 2) (told.Refused why.NoTransaction)
    ∷ step (asked.Abort 0) (told.Refused why.NoSession)
    ∷ step (asked.Join 0 0) (told.Refused why.NoFile)
    ∷ step (asked.Join 1 0) (told.Refused why.NoFile)
    ∷ step (asked.Put 1 a v1) told.Ok
    ∷ step (asked.Commit 1) (told.Committed 1)
    ∷ step asked.StartPoint (told.Phase Prepare 1)
    ∷ step asked.StartPoint (told.Refused why.WrongPhase)
    ∷ step asked.Seal (told.Phase Resolve 1)
    ∷ step asked.Done (told.Refused why.WrongPhase)
    ∷ step asked.Take (told.Refused why.WrongPhase)
    ∷ step asked.Rest (told.Refused why.WrongPhase)
    ∷ step (asked.Begin 1) (told.Begun 2)
    ∷ step (asked.Begin 1) (told.Refused why.AlreadyBegun)
    ∷ step asked.OpenCapture (told.Phase Capture 1)
    ∷ step asked.Done (told.NotYet 1)
    ∷ step asked.Take (told.Took a (Some v1))
    ∷ step asked.Done (told.PartDone 1 1 1)
    ∷ step asked.Take (told.Refused why.WrongPhase)
    ∷ step (asked.Join 0 1) (told.Refused why.NoFile)
    ∷ step (asked.Join 1 0) (told.Refused why.NoFile)
    ∷ step (asked.Join 1 1) (told.File 2 (1 ∷ []) 1)
    ∷ step asked.Rest (told.NotYet 1)
    ∷ step (asked.Commit 1) (told.Committed 6)
    ∷ step asked.Rest (told.Phase Rest 1)
    ∷ []

-- OutOfMemory uses up no number, no lock and no phase: the refused call is made again.
abbrev pub memory_refuses_and_changes_nothing : List Step
memory_refuses_and_changes_nothing = step (asked.Begin 1) (told.Refused why.OutOfMemory)
    ∷ step (asked.Begin 1) (told.Begun 1)
    ∷ step (asked.Put 1 a v1) (told.Refused why.OutOfMemory)
    ∷ step (asked.Get 1 a) told.Absent
    ∷ step (asked.Put 1 a v1) told.Ok
    ∷ step (asked.Commit 1) (told.Refused why.OutOfMemory)
    ∷ step (asked.Get 1 a) (told.Found v1)
    ∷ step (asked.Commit 1) (told.Committed 1)
    ∷ step asked.StartPoint (told.Refused why.OutOfMemory)
    ∷ step asked.StartPoint (told.Phase Prepare 1)
    ∷ step asked.Seal (told.Refused why.OutOfMemory)
    ∷ step asked.Seal (told.Phase Resolve 1)
    ∷ step asked.OpenCapture (told.Phase Capture 1)
    ∷ step asked.Take (told.Refused why.OutOfMemory)
    ∷ step asked.Take (told.Took a (Some v1))
    ∷ step asked.Done (told.Refused why.OutOfMemory)
    ∷ step asked.Done (told.PartDone 1 1 1)
    ∷ step (asked.Join 1 1) (told.Refused why.OutOfMemory)
    ∷ step (asked.Join 1 1) (told.File 2 (1 ∷ []) 1)
    ∷ step asked.Rest (told.Refused why.OutOfMemory)
    ∷ step asked.Rest (told.Phase Rest 1)
    ∷ []

-- Refusals: which one is answered if several could be.
pub record ExamplesOfRefusals : Type 0 where
  pub refusals_at_rest_runs : RunsTo plain refusals_at_rest ([]) ([])
  pub order_of_refusals_runs : RunsTo (with_sessions 2 plain) order_of_refusals ((1 ∷ [], has a 1 v1 ∷ []) ∷ (1 ∷ [], has a 1 v1 ∷ []) ∷ []) ((a, v1) ∷ [])
  pub order_of_refusals_state_1 : LaysTo (with_sessions 2 plain) order_of_refusals 1 1 ((a, v1) ∷ [])
  pub memory_refuses_and_changes_nothing_runs : RunsTo plain memory_refuses_and_changes_nothing ((1 ∷ [], has a 1 v1 ∷ []) ∷ (1 ∷ [], has a 1 v1 ∷ []) ∷ []) ((a, v1) ∷ [])
  pub memory_refuses_and_changes_nothing_state_2 : LaysTo plain memory_refuses_and_changes_nothing 2 1 ((a, v1) ∷ [])

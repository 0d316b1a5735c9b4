-- Files and their joins: in every order and grouping the file of the same points is the same.
-- Made from the text of the worked examples.
use Rattle.std.specs.Prelude.{List, [], ◌∷◌, ◌++◌, Some, None}
use Rattle.pc_types.specs.declared.Phase.TheVariants.{Rest, Prepare, Resolve, Capture}
use Rattle.pc_types.specs.declared.Event.TheVariants as asked
use Rattle.pc_types.specs.declared.Reply.TheVariants as told
use Rattle.pc_types.specs.declared.Refusal.TheVariants as why
use Rattle.pc_types.specs.declared.Step.{Step}
use Rattle.test_model.specs.Examples.{step, plain, has, lacks, RunsTo, LaysTo, Lacks, IsQuietRun, a, b, v1, v2, v3}

-- Three parts are joined in several orders, a part with itself too; a tombstone removes its key from the base.
abbrev pub joins_of_three_points : List Step
joins_of_three_points = step (asked.Begin 1) (told.Begun 1)
    ∷ step (asked.Put 1 a v1) told.Ok
    ∷ step (asked.Put 1 b v1) told.Ok
    ∷ step (asked.Commit 1) (told.Committed 1)
    ∷ step asked.StartPoint (told.Phase Prepare 1)
    ∷ step asked.Seal (told.Phase Resolve 1)
    ∷ step asked.OpenCapture (told.Phase Capture 1)
    ∷ step asked.Take (told.Took a (Some v1))
    ∷ step asked.Take (told.Took b (Some v1))
    ∷ step asked.Done (told.PartDone 1 1 2)
    ∷ step asked.Rest (told.Phase Rest 1)
    ∷ step (asked.Begin 1) (told.Begun 2)
    ∷ step (asked.Put 1 a v2) told.Ok
    ∷ step (asked.Commit 1) (told.Committed 7)
    ∷ step asked.StartPoint (told.Phase Prepare 2)
    ∷ step asked.Seal (told.Phase Resolve 2)
    ∷ step asked.OpenCapture (told.Phase Capture 2)
    ∷ step asked.Take (told.Took a (Some v2))
    ∷ step asked.Done (told.PartDone 2 2 1)
    ∷ step asked.Rest (told.Phase Rest 2)
    ∷ step (asked.Begin 1) (told.Begun 3)
    ∷ step (asked.Del 1 b) told.Ok
    ∷ step (asked.Commit 1) (told.Committed 13)
    ∷ step asked.StartPoint (told.Phase Prepare 3)
    ∷ step asked.Seal (told.Phase Resolve 3)
    ∷ step asked.OpenCapture (told.Phase Capture 3)
    ∷ step asked.Take (told.Took b None)
    ∷ step asked.Done (told.PartDone 3 3 1)
    ∷ step asked.Rest (told.Phase Rest 3)
    ∷ step (asked.Join 1 2) (told.File 4 (1 ∷ 2 ∷ []) 2)
    ∷ step (asked.Join 4 3) (told.File 5 (1 ∷ 2 ∷ 3 ∷ []) 2)
    ∷ step (asked.Join 2 1) (told.File 6 (1 ∷ 2 ∷ []) 2)
    ∷ step (asked.Join 3 6) (told.File 7 (1 ∷ 2 ∷ 3 ∷ []) 2)
    ∷ step (asked.Join 1 1) (told.File 8 (1 ∷ []) 2)
    ∷ step (asked.Join 8 2) (told.File 9 (1 ∷ 2 ∷ []) 2)
    ∷ step (asked.Join 9 3) (told.File 10 (1 ∷ 2 ∷ 3 ∷ []) 2)
    ∷ step (asked.Join 10 3) (told.File 11 (1 ∷ 2 ∷ 3 ∷ []) 2)
    ∷ []

-- A file of points 1 and 3 has a gap at 2; a file that isn't there joins with none.
abbrev pub join_over_a_missing_point : List Step
join_over_a_missing_point = joins_of_three_points ++ step (asked.Join 1 3) (told.File 12 (1 ∷ 3 ∷ []) 2)
    ∷ step (asked.Join 1 99) (told.Refused why.NoFile)
    ∷ []

-- The point between two others may be joined last.
abbrev pub joins_out_of_order : List Step
joins_out_of_order = step (asked.Begin 1) (told.Begun 1)
    ∷ step (asked.Put 1 a v1) told.Ok
    ∷ step (asked.Put 1 b v1) told.Ok
    ∷ step (asked.Commit 1) (told.Committed 1)
    ∷ step asked.StartPoint (told.Phase Prepare 1)
    ∷ step asked.Seal (told.Phase Resolve 1)
    ∷ step asked.OpenCapture (told.Phase Capture 1)
    ∷ step asked.Take (told.Took a (Some v1))
    ∷ step asked.Take (told.Took b (Some v1))
    ∷ step asked.Done (told.PartDone 1 1 2)
    ∷ step asked.Rest (told.Phase Rest 1)
    ∷ step (asked.Begin 1) (told.Begun 2)
    ∷ step (asked.Put 1 a v2) told.Ok
    ∷ step (asked.Commit 1) (told.Committed 7)
    ∷ step asked.StartPoint (told.Phase Prepare 2)
    ∷ step asked.Seal (told.Phase Resolve 2)
    ∷ step asked.OpenCapture (told.Phase Capture 2)
    ∷ step asked.Take (told.Took a (Some v2))
    ∷ step asked.Done (told.PartDone 2 2 1)
    ∷ step asked.Rest (told.Phase Rest 2)
    ∷ step (asked.Begin 1) (told.Begun 3)
    ∷ step (asked.Put 1 b v3) told.Ok
    ∷ step (asked.Commit 1) (told.Committed 13)
    ∷ step asked.StartPoint (told.Phase Prepare 3)
    ∷ step asked.Seal (told.Phase Resolve 3)
    ∷ step asked.OpenCapture (told.Phase Capture 3)
    ∷ step asked.Take (told.Took b (Some v3))
    ∷ step asked.Done (told.PartDone 3 3 1)
    ∷ step asked.Rest (told.Phase Rest 3)
    ∷ step (asked.Join 1 2) (told.File 4 (1 ∷ 2 ∷ []) 2)
    ∷ step (asked.Join 4 3) (told.File 5 (1 ∷ 2 ∷ 3 ∷ []) 2)
    ∷ step (asked.Join 3 1) (told.File 6 (1 ∷ 3 ∷ []) 2)
    ∷ step (asked.Join 6 2) (told.File 7 (1 ∷ 2 ∷ 3 ∷ []) 2)
    ∷ []

-- Files and their joins: in every order and grouping the file of the same points is the same.
pub record ExamplesOfFiles : Type 0 where
  pub joins_of_three_points_runs : RunsTo plain joins_of_three_points ((1 ∷ [], has a 1 v1 ∷ has b 1 v1 ∷ []) ∷ (2 ∷ [], has a 2 v2 ∷ []) ∷ (3 ∷ [], lacks b 3 ∷ []) ∷ (1 ∷ 2 ∷ [], has a 2 v2 ∷ has b 1 v1 ∷ []) ∷ (1 ∷ 2 ∷ 3 ∷ [], has a 2 v2 ∷ lacks b 3 ∷ []) ∷ (1 ∷ 2 ∷ [], has a 2 v2 ∷ has b 1 v1 ∷ []) ∷ (1 ∷ 2 ∷ 3 ∷ [], has a 2 v2 ∷ lacks b 3 ∷ []) ∷ (1 ∷ [], has a 1 v1 ∷ has b 1 v1 ∷ []) ∷ (1 ∷ 2 ∷ [], has a 2 v2 ∷ has b 1 v1 ∷ []) ∷ (1 ∷ 2 ∷ 3 ∷ [], has a 2 v2 ∷ lacks b 3 ∷ []) ∷ (1 ∷ 2 ∷ 3 ∷ [], has a 2 v2 ∷ lacks b 3 ∷ []) ∷ []) ((a, v2) ∷ [])
  pub joins_of_three_points_state_1 : LaysTo plain joins_of_three_points 1 1 ((a, v1) ∷ (b, v1) ∷ [])
  pub joins_of_three_points_gap_2 : Lacks plain joins_of_three_points 2 1
  pub joins_of_three_points_state_4 : LaysTo plain joins_of_three_points 4 2 ((a, v2) ∷ (b, v1) ∷ [])
  pub joins_of_three_points_state_5 : LaysTo plain joins_of_three_points 5 3 ((a, v2) ∷ [])
  pub joins_of_three_points_state_11 : LaysTo plain joins_of_three_points 11 3 ((a, v2) ∷ [])
  pub joins_of_three_points_is_quiet : IsQuietRun plain joins_of_three_points
  pub join_over_a_missing_point_runs : RunsTo plain join_over_a_missing_point ((1 ∷ [], has a 1 v1 ∷ has b 1 v1 ∷ []) ∷ (2 ∷ [], has a 2 v2 ∷ []) ∷ (3 ∷ [], lacks b 3 ∷ []) ∷ (1 ∷ 2 ∷ [], has a 2 v2 ∷ has b 1 v1 ∷ []) ∷ (1 ∷ 2 ∷ 3 ∷ [], has a 2 v2 ∷ lacks b 3 ∷ []) ∷ (1 ∷ 2 ∷ [], has a 2 v2 ∷ has b 1 v1 ∷ []) ∷ (1 ∷ 2 ∷ 3 ∷ [], has a 2 v2 ∷ lacks b 3 ∷ []) ∷ (1 ∷ [], has a 1 v1 ∷ has b 1 v1 ∷ []) ∷ (1 ∷ 2 ∷ [], has a 2 v2 ∷ has b 1 v1 ∷ []) ∷ (1 ∷ 2 ∷ 3 ∷ [], has a 2 v2 ∷ lacks b 3 ∷ []) ∷ (1 ∷ 2 ∷ 3 ∷ [], has a 2 v2 ∷ lacks b 3 ∷ []) ∷ (1 ∷ 3 ∷ [], has a 1 v1 ∷ lacks b 3 ∷ []) ∷ []) ((a, v2) ∷ [])
  pub join_over_a_missing_point_gap_12 : Lacks plain join_over_a_missing_point 12 2
  pub joins_out_of_order_runs : RunsTo plain joins_out_of_order ((1 ∷ [], has a 1 v1 ∷ has b 1 v1 ∷ []) ∷ (2 ∷ [], has a 2 v2 ∷ []) ∷ (3 ∷ [], has b 3 v3 ∷ []) ∷ (1 ∷ 2 ∷ [], has a 2 v2 ∷ has b 1 v1 ∷ []) ∷ (1 ∷ 2 ∷ 3 ∷ [], has a 2 v2 ∷ has b 3 v3 ∷ []) ∷ (1 ∷ 3 ∷ [], has a 1 v1 ∷ has b 3 v3 ∷ []) ∷ (1 ∷ 2 ∷ 3 ∷ [], has a 2 v2 ∷ has b 3 v3 ∷ []) ∷ []) ((a, v2) ∷ (b, v3) ∷ [])
  pub joins_out_of_order_state_5 : LaysTo plain joins_out_of_order 5 3 ((a, v2) ∷ (b, v3) ∷ [])
  pub joins_out_of_order_gap_6 : Lacks plain joins_out_of_order 6 2
  pub joins_out_of_order_state_7 : LaysTo plain joins_out_of_order 7 3 ((a, v2) ∷ (b, v3) ∷ [])
  pub joins_out_of_order_is_quiet : IsQuietRun plain joins_out_of_order

-- The headline: if a Take carries another content than its key has at the point, the file doesn't give the state.
use Rattle.std.specs.Prelude.{List, [], ◌∷◌, Some, reverse}
use Rattle.pc_types.specs.declared.Phase.TheVariants.{Prepare, Resolve, Capture}
use Rattle.pc_types.specs.declared.Event.TheVariants as asked
use Rattle.pc_types.specs.declared.Reply.TheVariants as told
use Rattle.pc_types.specs.declared.Step.{Step}
use Rattle.pc_model.specs.Replies.{IsLegalHistory}
use Rattle.pc_model.specs.Headline.{TakesPointValue, HasHeadline}
use Rattle.test_model.specs.Examples.{step, plain, a, v1, v2}
use Rattle.test_model.specs.ExamplesOfPoints.{commit_after_the_point}

-- A key is set, and then taken with another value.
abbrev pub another_value_is_taken : List Step
another_value_is_taken = step (asked.Begin 1) (told.Begun 1)
    ∷ step (asked.Put 1 a v1) told.Ok
    ∷ step (asked.Commit 1) (told.Committed 1)
    ∷ step asked.StartPoint (told.Phase Prepare 1)
    ∷ step asked.Seal (told.Phase Resolve 1)
    ∷ step asked.OpenCapture (told.Phase Capture 1)
    ∷ step asked.Take (told.Took a (Some v2))
    ∷ step asked.Done (told.PartDone 1 1 1)
    ∷ []

-- The headline, of one history that has it and of one that hasn't.
pub record ExamplesOfHeadlines : Type 0 where
  -- With a transaction that is open over the point each Take carries its key's content at the point, so the file gives the state.
  pub right_values : TakesPointValue plain.base (reverse commit_after_the_point)
  pub right_headline : HasHeadline plain (reverse commit_after_the_point)
  -- Legal replies leave open what a Take carries.
  pub another_value_is_legal : IsLegalHistory plain (reverse another_value_is_taken)
  -- But it is not the key's content at the point, and the file doesn't give the state.
  pub another_value : ¬ TakesPointValue plain.base (reverse another_value_is_taken)
  pub no_headline : ¬ HasHeadline plain (reverse another_value_is_taken)

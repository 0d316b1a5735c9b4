-- The calls of one pass that a loop has made on a board.
use Rattle.std.specs.Prelude.{◌≡◌, ◌≢◌, ℕ, List, [], ◌∷◌, ◌++◌, All, map}
use mathlib.Core.List.{IsPrefix}
use Rattle.pc_board.specs.declared.calls.CallKind.{CallKind}
use Rattle.pc_board.specs.declared.calls.CallKind.TheVariants.{Claim, Publish, Look}
use Rattle.pc_board.specs.declared.calls.Call.{Call}
use Rattle.pc_board.specs.Calls.{call, calls_by}
use Rattle.pc_board.specs.Passes.{Pass, IsSamePass}

-- the calls that the pass has made itself
abbrev pub own_calls : Pass → List Call
own_calls pass = calls_by pass.number pass.seen

-- The pass is still the same one, has seen all that it had, and has itself made these calls since, and no other.
pub record MakesCalls (before after : Pass) (calls : List Call) : Type 0 where
  pub same : IsSamePass before after
  pub seen : IsPrefix before.seen after.seen
  pub own : own_calls after ≡ own_calls before ++ calls

-- the calls of the pass of this number that publish the points, in their order
abbrev pub publications : ℕ → List ℕ → List Call
publications number points = map (λ point. call number Publish point) points

-- the numbers and the one that a call of this kind claims before them
abbrev pub claimed_by : CallKind → ℕ → List ℕ → List ℕ
claimed_by Claim value numbers = value ∷ numbers
claimed_by Publish value numbers = numbers
claimed_by Look value numbers = numbers

-- the numbers that the calls claim, in their order
abbrev pub numbers_in : List Call → List ℕ
numbers_in [] = []
numbers_in (call ∷ calls) = claimed_by call.kind call.value (numbers_in calls)

-- Since then the pass has claimed these numbers, in their order, and made no other call but looks.
pub record HasClaimed (before after : Pass) (numbers : List ℕ) : Type 0 where
  pub calls : List Call
  pub made : MakesCalls before after calls
  pub unpublished : All (λ (call : Call). call.kind ≢ Publish) calls
  pub claims : numbers_in calls ≡ numbers

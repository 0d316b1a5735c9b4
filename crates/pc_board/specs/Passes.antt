-- The views of a board and its passes in contracts, and the definitions of a call and of a board's end.
use Rattle.std.specs.Prelude.{◌≡◌, ℕ, zero, suc, ◌<◌, List, [], ◌∷◌, ◌++◌, All}
use mathlib.Core.List.{IsPrefix}
use Rattle.atomic_table.specs.Seated.{TableId}
use Rattle.pc_board.specs.declared.calls.CallKind.{CallKind}
use Rattle.pc_board.specs.declared.calls.Call.{Call}
use Rattle.pc_board.specs.Calls.{call, claims_of, greatest_of, calls_by, AreLegalCalls}

-- which board it is, and how many passes it has
pub record Board : Type 0 where
  pub name : TableId
  pub passes : ℕ

-- of which board it is, its number there, and the calls that it has seen, up to its own last one
pub record Pass : Type 0 where
  pub board : TableId
  pub number : ℕ
  pub seen : List Call

abbrev pub IsOfBoard : Pass → Board → Type 0
IsOfBoard pass board = pass.board ≡ board.name

-- the passes 0 to count - 1 of a board, which have seen nothing
abbrev pub new_passes : TableId → ℕ → List Pass
new_passes board zero = []
new_passes board (suc count) = new_passes board count ++ record { board = board; number = count; seen = [] } ∷ []

-- how many claims the pass has made
abbrev pub claims_made : Pass → ℕ
claims_made pass = claims_of (calls_by pass.number pass.seen)

-- the calls after are those before, then some of other passes, and then this call
abbrev pub EndsWithCall : List Call → Call → List Call → Type 0
EndsWithCall before call after = (between : List Call) × (after ≡ (before ++ between) ++ call ∷ []) × (calls_by call.by between ≡ [])

-- the pass is that of the same board and number
abbrev pub IsSamePass : Pass → Pass → Type 0
IsSamePass before after = (after.board ≡ before.board) × (after.number ≡ before.number)

-- By a call that gave or published the value the pass stays the same one, and what it has seen is a legal history: all that
-- it had seen, then calls of other passes, and then this call
pub record MakesCall (before : Pass) (kind : CallKind) (value : ℕ) (after : Pass) : Type 0 where
  pub same : IsSamePass before after
  pub legal : AreLegalCalls after.seen
  pub last : EndsWithCall before.seen (call before.number kind value) after.seen

-- the history begins with what the pass has seen, and has no other call of it
abbrev pub HasCallsOfPass : List Call → Pass → Type 0
HasCallsOfPass calls pass = IsPrefix pass.seen calls × (calls_by pass.number calls ≡ calls_by pass.number pass.seen)

-- There is a legal history of calls by the board's passes, with that many claims and this greatest point, which begins with
-- what each of these passes has seen, and has no other call of it
pub record IsBoardEnd (board : Board) (claims horizon : ℕ) (handed_in : List Pass) : Type 0 where
  pub history : List Call
  pub legal : AreLegalCalls history
  pub ours : All (λ (call : Call). call.by < board.passes) history
  pub claims_are : claims ≡ claims_of history
  pub horizon_is : horizon ≡ greatest_of history
  pub each : All (HasCallsOfPass history) handed_in

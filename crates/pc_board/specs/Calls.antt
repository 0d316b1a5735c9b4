-- The meaning of a board's calls. A history of calls has the first call in front.
use Rattle.std.specs.Prelude.{◌≡◌, ◌==◌, ℕ, ◌+◌, ◌≤◌, max, List, [], ◌∷◌, ◌++◌, All}
use Rattle.std.specs.List.{filter}
use Rattle.pc_board.specs.declared.calls.CallKind.{CallKind}
use Rattle.pc_board.specs.declared.calls.CallKind.TheVariants.{Claim, Publish, Look}
use Rattle.pc_board.specs.declared.calls.Call.{Call}

abbrev pub call : ℕ → CallKind → ℕ → Call
call by kind value = record { by = by; kind = kind; value = value }

-- how many numbers such a call claims
abbrev pub claims_in : CallKind → ℕ
claims_in Claim = 1
claims_in Publish = 0
claims_in Look = 0

-- the point that a call of this kind and with this value publishes, or 0
abbrev pub point_in : CallKind → ℕ → ℕ
point_in Claim value = 0
point_in Publish value = value
point_in Look value = 0

-- how many claims there are
abbrev pub claims_of : List Call → ℕ
claims_of [] = 0
claims_of (call ∷ calls) = claims_in call.kind + claims_of calls

-- the greatest point that was published, or 0
abbrev pub greatest_of : List Call → ℕ
greatest_of [] = 0
greatest_of (call ∷ calls) = max (point_in call.kind call.value) (greatest_of calls)

-- the calls of the pass of this number
abbrev pub calls_by : ℕ → List Call → List Call
calls_by number calls = filter (λ (call : Call). call.by == number) calls

-- what a call of this kind gives after these: a claim the next number, from 0, and a look the greatest point published
abbrev pub AnswersCall : CallKind → List Call → ℕ → Type 0
AnswersCall Claim before value = value ≡ claims_of before
AnswersCall Publish before value = Unit {0}
AnswersCall Look before value = value ≡ greatest_of before

-- each call gives the correct result after those before it
abbrev pub AreLegalCalls : List Call → Type 0
AreLegalCalls calls = (before : List Call) (call : Call) (after : List Call) → calls ≡ before ++ call ∷ after → AnswersCall call.kind before call.value

-- no point that was published in these calls is greater
abbrev pub NoneAbove : List Call → ℕ → Type 0
NoneAbove calls point = All (λ (call : Call). point_in call.kind call.value ≤ point) calls

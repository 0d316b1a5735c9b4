-- The answers to a session.
use Rattle.std.specs.Prelude.{◌≡◌, ℕ, ℤ, Bool, true, false, List, Option, Some, None}
use Rattle.pc_types.specs.declared.Event.{Event}
use Rattle.pc_model.specs.History.{History}
use Rattle.pc_model.specs.Replies.{Setting}
use Rattle.pc_txn.specs.declared.got.Got.{Got}
use Rattle.pc_txn.specs.declared.got.Got.TheVariants as got
use Rattle.pc_shared.specs.declared.session.CallAnswer.{CallAnswer}
use Rattle.pc_shared.specs.declared.session.CallAnswer.TheVariants as answer
use Rattle.pc_shared.specs.Asked.{IsGot, IsWriteMade, IsAdded}

-- a session's answer to a read
abbrev pub answer_of : Got → CallAnswer
answer_of (got.Found value) = answer.Found
answer_of got.Absent = answer.Absent
answer_of got.Died = answer.Died

-- a session's answer to a read, and the history that it has then seen
abbrev pub IsReadAnswered : Setting → History → ℕ → List ℕ → CallAnswer → History → Type 0
IsReadAnswered st before s key a after = (g : Got) × (a ≡ answer_of g) × IsGot st before s key g after

-- a session's answer to a write
abbrev pub write_answer : Bool → CallAnswer
write_answer true = answer.Ok
write_answer false = answer.Died

-- a session's answer to a write, and the history that it has then seen
abbrev pub IsWriteAnswered : Setting → History → Event → CallAnswer → History → Type 0
IsWriteAnswered st before event a after = (made : Bool) × (a ≡ write_answer made) × IsWriteMade st before event made after

-- a session's answer to an add
abbrev pub answer_to_add : Option ℤ → CallAnswer
answer_to_add (Some sum) = answer.Sum sum
answer_to_add None = answer.Died

-- a session's answer to an add, and the history that it has then seen
abbrev pub IsAddAnswered : Setting → History → Event → CallAnswer → History → Type 0
IsAddAnswered st before event a after = (sum : Option ℤ) × (a ≡ answer_to_add sum) × IsAdded st before event sum after

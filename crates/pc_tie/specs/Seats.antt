-- The view of the seats at a store's word in contracts.
use Rattle.std.specs.Prelude.{◌≡◌, ◌<◌, ◌≤◌, ℕ, List, [], ◌∷◌, MatchBool, length, get_or}
use Rattle.atomic_table.specs.Seated.{TableId}
use Rattle.atomic_table.specs.declared.badge.Badge.{Badge}
use Rattle.pc_types.specs.declared.Step.{Step}
use Rattle.pc_model.specs.History.{History}
use Rattle.pc_model.specs.Replies.{Setting, IsLegalHistory}
use Rattle.pc_model.specs.Calls.{counts, IsBeginning, Extends, HasCallsOf}
use Rattle.pc_tie.specs.declared.sight.Sitting.{Sitting}
use Rattle.pc_tie.specs.declared.sight.Sight.{Sight}
use Rattle.pc_tie.specs.declared.sight.Sight.TheVariants.{Front}
use Rattle.pc_tie.specs.Rules.{a_witness, Speaks, sitting, sight_number, hist_of}

-- which word it is, and what the store's run starts from
pub record Name : Type 0 where
  pub table : TableId
  pub setting : Setting

-- what the seat of a badge knows: a number, and the history that it has seen
abbrev pub sitting_in : List Sight → Sitting
sitting_in [] = sitting a_witness []
sitting_in (v ∷ vs) = sitting (sight_number v) (hist_of v)

-- what the seat of the badge knows
abbrev pub seat_of : Badge Sight → Sitting
seat_of badge = sitting_in badge.views

-- its number
abbrev pub seat_number : Badge Sight → ℕ
seat_number badge = (seat_of badge).number

-- the history that it has seen
abbrev pub seen_at : Badge Sight → History
seen_at badge = (seat_of badge).seen

-- the badge is that of a seat at the word which isn't the keeper's
abbrev pub IsSeatAt : TableId → Badge Sight → Type 0
IsSeatAt table badge = (badge.table_id ≡ table) × (badge.views ≡ Front (sitting_in badge.views).number (sitting_in badge.views).seen ∷ [])

-- the number is that of a session, and what it has seen is a legal history
pub record IsSession (st : Setting) (s : Sitting) : Type 0 where
  pub from_one : 0 < s.number
  pub speaks : Speaks s.number
  pub within : s.number ≤ st.sessions
  pub legal : IsLegalHistory st s.seen

-- A step moves a seat on: if its reply counts, what it has seen is extended by the step; otherwise it stays.
abbrev pub MovesOn : Setting → History → Step → History → Type 0
MovesOn st old step new = MatchBool (counts step.reply) (Extends st old step new) (new ≡ old)

-- what the keeper knows: the history, how many seats it has dealt, and those that it has taken in, the last one first
pub record KeeperView : Type 0 where
  pub history : History
  pub dealt : ℕ
  pub guests : List Sitting

abbrev pub meeting : History → ℕ → List Sitting → KeeperView
meeting history dealt guests = record { history = history; dealt = dealt; guests = guests }

-- the number of the first, or a witness's if there is none
abbrev pub first_number : List Sitting → ℕ
first_number [] = a_witness
first_number (s ∷ ss) = s.number

-- no two seats but witnesses' have one number
abbrev pub NoTwoAlike : List Sitting → Type 0
NoTwoAlike ss = (i j : ℕ) (d : Sitting) → i < length ss → j < length ss → Speaks (get_or ss i d).number → (get_or ss i d).number ≡ (get_or ss j d).number → i ≡ j

-- the seat has seen all calls of its number
abbrev pub HasOwnCalls : History → Sitting → Type 0
HasOwnCalls history s = HasCallsOf history s.number s.seen

-- the seat has seen a prefix of the history; and if it is no witness's, all calls of its number
abbrev pub IsFrontOf : History → Sitting → Type 0
IsFrontOf history s = IsBeginning s.seen history × (Speaks s.number → HasOwnCalls history s)

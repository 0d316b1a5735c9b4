-- The view of locks: each slot's queue, and the slots of each transaction.
use Rattle.std.specs.Prelude.{◌≡◌, ◌≢◌, ⊤, ℕ, ◌==◌, Bool, true, false, not, filter, List, [], ◌∷◌, ◌++◌, Option, Some, None, is_some, unwrap_or, if◌then◌else◌}
use Rattle.std.specs.List.{list_any}
use Rattle.std.specs.Ordering.{nat_cmp}
use Rattle.std.specs.Map.{lookup}
use Rattle.std.specs.BTreeMap.{is_at}
use Rattle.pc_types.specs.declared.Mode.{Mode}
use Rattle.pc_types.specs.declared.Outcome.{Outcome}
use Rattle.pc_types.specs.declared.Request.{Request}
use Rattle.pc_model.specs.Locks.{Queue, request_in, is_ungranted, outcome, queue_after, queue_without}
use Rattle.pc_types.specs.declared.Outcome.TheVariants.{Granted, Queued, Died}
use Rattle.pc_model.specs.Queues.{stands_in, IsSettled}

-- the slots of the transactions, by number, in the order of first request
abbrev pub SlotLists : Type 0
SlotLists = List (ℕ × List ℕ)

-- the slots of which the transaction has a request, in the order of first request
abbrev pub slots_of : SlotLists → ℕ → List ℕ
slots_of lists t = unwrap_or (lookup (is_at (nat_cmp t)) lists) []

-- the queue of each slot
abbrev pub Queues : Type 0
Queues = ℕ → Queue

-- the queue of each slot, and the slots of each transaction
pub record State : Type 0 where
  pub queues : Queues
  pub lists : SlotLists

-- the queue of a slot
abbrev pub queue_at : Queues → ℕ → Queue
queue_at queues slot = queues slot

-- at this place it is x now, and at every other one what it was
pub record SetsAt {A : Type 0} (old new : ℕ → A) (place : ℕ) (x : A) : Type 0 where
  pub this : new place ≡ x
  pub others : (other : ℕ) → other ≢ place → new other ≡ old other

-- the same queue at each slot, and the same lists
pub record AreAlike (a b : State) : Type 0 where
  pub queues : (slot : ℕ) → queue_at a.queues slot ≡ queue_at b.queues slot
  pub lists : a.lists ≡ b.lists

-- each slot of which a transaction has a request is one of these
abbrev pub AreAmong : (ℕ → Type 0) → Queues → Type 0
AreAmong has queues = (slot t : ℕ) → stands_in (queue_at queues slot) t ≡ true → has slot

-- the first of the list
abbrev pub first_in_list : List ℕ → Option ℕ
first_in_list [] = None
first_in_list (x ∷ xs) = Some x

-- the list without its first
abbrev pub rest_of_list : List ℕ → List ℕ
rest_of_list [] = []
rest_of_list (x ∷ xs) = xs

-- the last of the list
abbrev pub last_in_list : List ℕ → Option ℕ
last_in_list [] = None
last_in_list (x ∷ []) = Some x
last_in_list (x ∷ y ∷ ys) = last_in_list (y ∷ ys)

-- the slot is in the list
abbrev pub is_listed : List ℕ → ℕ → Bool
is_listed slots slot = list_any (λ s. s == slot) slots

-- no slot occurs twice
abbrev pub AreDifferent : List ℕ → Type 0
AreDifferent [] = ⊤
AreDifferent (x ∷ xs) = (is_listed xs x ≡ false) × AreDifferent xs

-- the transaction's slots once a request of this slot was answered
abbrev pub slots_after : List ℕ → ℕ → Bool → Outcome → List ℕ
slots_after slots slot stood Granted = if stood then slots else slots ++ slot ∷ []
slots_after slots slot stood Queued = slots ++ slot ∷ []
slots_after slots slot stood Died = slots

-- the queue of the slot and the slots of the transaction are these now, and all others are as they were
pub record TurnsInto (old new : State) (slot t : ℕ) (queue : Queue) (slots : List ℕ) : Type 0 where
  pub queues : SetsAt old.queues new.queues slot queue
  pub list : slots_of new.lists t ≡ slots
  pub others : (other : ℕ) → other ≢ t → slots_of new.lists other ≡ slots_of old.lists other

-- the request is at the end of the slot's queue, and the slot at the end of its transaction's
abbrev pub IsEntered : State → State → ℕ → Request → Type 0
IsEntered old new slot request = TurnsInto old new slot request.transaction (queue_at old.queues slot ++ request ∷ []) (slots_of old.lists request.transaction ++ slot ∷ [])

-- the transaction's request of the slot, the first of its slots, is gone from both
abbrev pub IsTakenOut : State → State → ℕ → ℕ → Type 0
IsTakenOut old new t slot = TurnsInto old new slot t (filter (λ r. not (r.transaction == t)) (queue_at old.queues slot)) (rest_of_list (slots_of old.lists t))

-- the same, and what waited for it is granted
abbrev pub IsReleased : State → State → ℕ → ℕ → Type 0
IsReleased old new t slot = TurnsInto old new slot t (queue_without (queue_at old.queues slot) t) (rest_of_list (slots_of old.lists t))

-- the transaction's request of the slot was so answered, and is kept if it didn't die
pub record IsRequestAnswered (old new : State) (t slot : ℕ) (mode : Mode) (answer : Outcome) : Type 0 where
  pub told : answer ≡ outcome (queue_at old.queues slot) t mode
  pub turned : TurnsInto old new slot t (queue_after (queue_at old.queues slot) t mode answer) (slots_after (slots_of old.lists t) slot (stands_in (queue_at old.queues slot) t) answer)

-- at one of the transaction's slots its request waits
abbrev pub is_waiting_in_state : State → ℕ → Bool
is_waiting_in_state state t = list_any (λ slot. is_ungranted (request_in (queue_at state.queues slot) t)) (slots_of state.lists t)

-- a slot is in the transaction's list if and only if the transaction has a request in its queue, and none occurs twice;
-- only the last may wait
pub record AreLinked (queues : Queues) (lists : SlotLists) : Type 0 where
  pub listed : (t slot : ℕ) → is_listed (slots_of lists t) slot ≡ stands_in (queue_at queues slot) t
  pub once : (t : ℕ) → AreDifferent (slots_of lists t)
  pub waits : (t slot : ℕ) → is_ungranted (request_in (queue_at queues slot) t) ≡ true → last_in_list (slots_of lists t) ≡ Some slot

-- no transaction without a slot has a list
abbrev pub AreFilled : SlotLists → Type 0
AreFilled lists = (t : ℕ) → is_some (lookup (is_at (nat_cmp t)) lists) ≡ true → is_some (first_in_list (slots_of lists t)) ≡ true

-- the invariant of locks: in each queue the granted requests are in front and compatible, and only waiting ones come
-- after them; the lists and the queues say the same; and no transaction without a request has a list
pub record AreSettled (state : State) : Type 0 where
  pub settled : (slot : ℕ) → IsSettled (queue_at state.queues slot)
  pub linked : AreLinked state.queues state.lists
  pub filled : AreFilled state.lists

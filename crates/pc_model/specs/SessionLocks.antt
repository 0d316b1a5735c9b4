-- The invariants of two-phase locking for the sessions.
use Rattle.std.specs.Prelude.{◌≡◌, ℕ, ◌==◌, ◌≤◌, Bool, true, false, List, [], ◌∷◌, Option, Some, is_some, if◌then◌else◌}
use Rattle.pc_types.specs.declared.Mode.TheVariants.{Shared, Exclusive}
use Rattle.pc_types.specs.declared.Write.{Write}
use Rattle.pc_model.specs.Database.{written}
use Rattle.pc_model.specs.History.{History, Effect, effect, begun, is_open, transaction_number_of, writes_of}
use Rattle.pc_model.specs.History.Effect.{Begins, Reads, Adds}
use Rattle.pc_model.specs.Locks.{Queue, request_in, queue_of, is_ungranted, waited_for}
use Rattle.pc_model.specs.Points.{is_among}
use Rattle.pc_model.specs.Queues.{IsSettled, stands_in, holds}

-- the keys that the session's transaction has read or added to after this effect, given those before
abbrev pub read_by : ℕ → Effect → List (List ℕ) → List (List ℕ)
read_by s (Begins t) keys = if (t == s) then [] else keys
read_by s (Reads t key answer) keys = if (t == s) then (key ∷ keys) else keys
read_by s (Adds t key delta sum) keys = if (t == s) then (key ∷ keys) else keys
read_by s other keys = keys

-- the keys that the session has read or added to since its last begin
abbrev pub keys_read : ℕ → History → List (List ℕ)
keys_read s [] = []
keys_read s (step ∷ history) = read_by s (effect step) (keys_read s history)

-- what locking keeps: of the queues, the count of begins, and of each session whether it is open, its number, the key that it
-- waited for, the keys it has read or added to, and its writes
pub record IsLocked (queue : List ℕ → Queue) (count : ℕ) (opened : ℕ → Bool) (number : ℕ → ℕ) (waited : ℕ → Option (List ℕ)) (keys : ℕ → List (List ℕ)) (wrote : ℕ → List Write) : Type 0 where
  pub settled : (key : List ℕ) → IsSettled (queue key)
  pub known : (key : List ℕ) (n : ℕ) → stands_in (queue key) n ≡ true → n ≤ count
  pub numbered : (s : ℕ) → opened s ≡ true → number s ≤ count
  pub apart : (s t : ℕ) → opened s ≡ true → opened t ≡ true → (s == t) ≡ false → (number s == number t) ≡ false
  pub waits : (s : ℕ) (key : List ℕ) → opened s ≡ true → is_ungranted (request_in (queue key) (number s)) ≡ true → waited s ≡ Some key
  pub reads : (s : ℕ) (key : List ℕ) → opened s ≡ true → is_among (keys s) key ≡ true → holds (queue key) (number s) Shared ≡ true
  pub writes : (s : ℕ) (key : List ℕ) → opened s ≡ true → is_some (written (wrote s) key) ≡ true → holds (queue key) (number s) Exclusive ≡ true

-- the same after a history, and after one more effect
abbrev pub Locked : History → Type 0
Locked h = IsLocked (λ key. queue_of key h) (begun h) (λ s. is_open s h) (λ s. transaction_number_of s h) (λ s. waited_for s h) (λ s. keys_read s h) (λ s. writes_of s h)

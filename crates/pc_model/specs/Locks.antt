-- Strict two-phase locking with wait-die. Each key has a queue of requests: a get asks for a shared lock, a put, a removal or an add
-- for an exclusive one, and what was granted is held until its transaction commits or aborts. Of two transactions the one with the
-- smaller number is the older. The rules:
-- (1) who asks for no more than its lock allows already is granted that immediately;
-- (2) who has no request in the queue gets one at its end, granted if it conflicts with no other, be that granted or waiting;
-- (3) if it conflicts, it waits there, as long as all the others are of younger transactions;
-- (4) if one of them is of an older one, its transaction dies, and nothing of the request stays;
-- (5) who has a shared lock and asks for the exclusive one gets that in its place, unless another one was granted the key too;
--     then its transaction dies, and keeps the shared lock;
-- (6) once a request goes, the queue is gone over from its front, and what waits there is granted, up to the first request that
--     conflicts with one before it.
use Rattle.std.specs.Prelude.{ℕ, ◌==◌, ◌&&◌, ◌||◌, not, nat_lt, Bool, true, false, List, [], ◌∷◌, ◌++◌, if◌then◌else◌, filter, Option, Some, None}
use Rattle.std.specs.List.{list_any, list_all, find}
use Rattle.pc_types.specs.declared.Mode.{Mode}
use Rattle.pc_types.specs.declared.Mode.TheVariants.{Shared, Exclusive}
use Rattle.pc_types.specs.declared.Outcome.{Outcome}
use Rattle.pc_types.specs.declared.Outcome.TheVariants.{Granted, Queued, Died}
use Rattle.pc_types.specs.declared.Request.{Request}
use Rattle.pc_model.specs.Database.{same_bytes}
use Rattle.pc_model.specs.History.{History, Effect, effect, transaction_number_of}
use Rattle.pc_model.specs.History.Effect.{Begins, Reads, Writes, Adds, Waits, Commits, Aborts}

-- the requests of a key, in the order of arrival
abbrev pub Queue : Type 0
Queue = List Request

-- the mode is exclusive
abbrev pub is_exclusive : Mode → Bool
is_exclusive Shared = false
is_exclusive Exclusive = true

-- the mode that covers both
abbrev pub stronger : Mode → Mode → Mode
stronger Shared mode = mode
stronger Exclusive mode = Exclusive

-- two requests may be granted together: they are of one transaction, or both shared
abbrev pub are_compatible : Request → Request → Bool
are_compatible r q = (r.transaction == q.transaction) || (not (is_exclusive r.mode) && not (is_exclusive q.mode))

-- the transaction's request in the queue
abbrev pub request_in : Queue → ℕ → Option Request
request_in queue t = find (λ r. r.transaction == t) queue

-- rules 2, 3 and 4, for a transaction that has no request in the queue
abbrev pub outcome_of_new : Queue → ℕ → Mode → Outcome
outcome_of_new queue t mode =
    if list_all (are_compatible (record { transaction = t; mode = mode; granted = true })) queue then Granted else
    if list_all (λ r. nat_lt t r.transaction) queue then Queued else Died

-- rule 5
abbrev pub outcome_of_upgrade : Queue → ℕ → Outcome
outcome_of_upgrade queue t = if list_any (λ r. r.granted && not (r.transaction == t)) queue then Died else Granted

-- rule 1, and otherwise 5, if the transaction has a request; rules 2 to 4 if it has none
abbrev pub outcome_beside : Queue → ℕ → Mode → Option Request → Outcome
outcome_beside queue t mode None = outcome_of_new queue t mode
outcome_beside queue t mode (Some own) = if is_exclusive own.mode || not (is_exclusive mode) then Granted else outcome_of_upgrade queue t

-- how a request of the transaction is answered, asked only if none of its requests waits
abbrev pub outcome : Queue → ℕ → Mode → Outcome
outcome queue t mode = outcome_beside queue t mode (request_in queue t)

-- the queue with the transaction's request as it is now: changed in place, or else at the end
abbrev pub with_request : Queue → Request → Queue
with_request [] request = request ∷ []
with_request (r ∷ rs) request = if r.transaction == request.transaction then record r { mode = stronger r.mode request.mode } ∷ rs else r ∷ with_request rs request

-- the queue after a request was answered
abbrev pub queue_after : Queue → ℕ → Mode → Outcome → Queue
queue_after queue t mode Granted = with_request queue (record { transaction = t; mode = mode; granted = true })
queue_after queue t mode Queued = queue ++ record { transaction = t; mode = mode; granted = false } ∷ []
queue_after queue t mode Died = queue

-- rule 6, given the requests before these
abbrev pub granted_behind : Queue → Queue → Queue
granted_behind before [] = []
granted_behind before (r ∷ rs) =
    if list_all (are_compatible r) before then record r { granted = true } ∷ granted_behind (before ++ record r { granted = true } ∷ []) rs else r ∷ rs

-- the queue after the transaction's request was removed
abbrev pub queue_without : Queue → ℕ → Queue
queue_without queue t = granted_behind [] (filter (λ r. not (r.transaction == t)) queue)

-- the queue after one effect
abbrev pub queue_by : List ℕ → Effect → History → Queue → Queue
queue_by key (Reads s k answer) history queue = if same_bytes k key then queue_after queue (transaction_number_of s history) Shared Granted else queue
queue_by key (Writes s k value) history queue = if same_bytes k key then queue_after queue (transaction_number_of s history) Exclusive Granted else queue
queue_by key (Adds s k delta sum) history queue = if same_bytes k key then queue_after queue (transaction_number_of s history) Exclusive Granted else queue
queue_by key (Waits s k mode) history queue = if same_bytes k key then queue_after queue (transaction_number_of s history) mode Queued else queue
queue_by key (Commits s) history queue = queue_without queue (transaction_number_of s history)
queue_by key (Aborts s) history queue = queue_without queue (transaction_number_of s history)
queue_by key other history queue = queue

-- the requests of the key
abbrev pub queue_of : List ℕ → History → Queue
queue_of key [] = []
queue_of key (step ∷ history) = queue_by key (effect step) history (queue_of key history)

-- the key of the session's last request that had to wait, after one effect
abbrev pub waits_by : ℕ → Effect → History → Option (List ℕ) → Option (List ℕ)
waits_by s (Begins t) history was = if t == s then None else was
waits_by s (Waits t key mode) history was = if t == s then Some key else was
waits_by s other history was = was

-- the key of the session's last request that had to wait
abbrev pub waited_for : ℕ → History → Option (List ℕ)
waited_for s [] = None
waited_for s (step ∷ history) = waits_by s (effect step) history (waited_for s history)

-- there is a request, and it waits
abbrev pub is_ungranted : Option Request → Bool
is_ungranted None = false
is_ungranted (Some r) = not r.granted

-- the session's transaction has a request of this key that waits
abbrev pub waits_on : ℕ → History → Option (List ℕ) → Bool
waits_on s history None = false
waits_on s history (Some key) = is_ungranted (request_in (queue_of key history) (transaction_number_of s history))

-- a request of the session's transaction waits
abbrev pub is_waiting : ℕ → History → Bool
is_waiting s history = waits_on s history (waited_for s history)

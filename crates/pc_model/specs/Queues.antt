-- The invariant of a queue of lock requests, and the holders of a lock.
use Rattle.std.specs.Prelude.{IsTrue, AllPairs, ◌≡◌, ℕ, ◌==◌, ◌&&◌, ◌||◌, not, ⊤, Bool, true, false, MatchBool, [], ◌∷◌, ◌++◌, Option, Some, None}
use Rattle.std.specs.List.{list_any, list_all}
use Rattle.pc_types.specs.declared.Mode.{Mode}
use Rattle.pc_types.specs.declared.Request.{Request}
use Rattle.pc_model.specs.Locks.{Queue, is_exclusive, are_compatible, request_in}

-- all wait
abbrev pub AllWait : Queue → Type 0
AllWait [] = ⊤
AllWait (r ∷ rs) = (r.granted ≡ false) × AllWait rs

-- after these requests: first granted ones, each of which fits all before it, and then waiting ones, of which the first
-- doesn't fit
abbrev pub IsSettledBehind : Queue → Queue → Type 0
IsSettledBehind before [] = ⊤
IsSettledBehind before (r ∷ rs) = MatchBool r.granted ((list_all (are_compatible r) before ≡ true) × IsSettledBehind (before ++ r ∷ []) rs) ((list_all (are_compatible r) before ≡ false) × AllWait rs)

-- the transaction has a request in the queue
abbrev pub stands_in : Queue → ℕ → Bool
stands_in queue t = list_any (λ r. r.transaction == t) queue

-- no transaction has two requests
abbrev pub AreOnce : Queue → Type 0
AreOnce [] = ⊤
AreOnce (r ∷ rs) = (stands_in rs r.transaction ≡ false) × AreOnce rs

-- what a queue keeps
abbrev pub IsSettled : Queue → Type 0
IsSettled queue = IsSettledBehind [] queue × AreOnce queue

-- the request is granted, in this mode or a stronger one
abbrev pub is_granted_as : Mode → Option Request → Bool
is_granted_as mode None = false
is_granted_as mode (Some r) = r.granted && (is_exclusive r.mode || not (is_exclusive mode))

-- the transaction holds the lock in this mode or a stronger one
abbrev pub holds : Queue → ℕ → Mode → Bool
holds queue t mode = is_granted_as mode (request_in queue t)

-- after these requests: first granted ones, each of which fits all before it, and then only waiting ones
abbrev pub IsSoundBehind : Queue → Queue → Type 0
IsSoundBehind before [] = ⊤
IsSoundBehind before (r ∷ rs) = MatchBool r.granted ((list_all (are_compatible r) before ≡ true) × IsSoundBehind (before ++ r ∷ []) rs) (AllWait rs)

-- the request, granted
abbrev pub grant : Request → Request
grant r = record r { granted = true }

-- two requests conflict: they may not be granted together
abbrev pub Conflicts : Request → Request → Type 0
Conflicts r q = ¬ IsTrue (are_compatible r q)

-- granted requests never conflict
abbrev pub IsLegalQueue : Queue → Type 0
IsLegalQueue queue = AllPairs (λ r q. IsTrue r.granted → IsTrue q.granted → ¬ Conflicts r q) queue

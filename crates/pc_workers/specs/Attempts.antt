-- The calls of a client for its session: of each job its attempts, and of each attempt its calls, in order. Each lies between two
-- histories, of which the session had seen the first before and has seen the second now; it made no other call.
use Rattle.std.specs.Prelude.{◌≡◌, ◌+◌, ◌⊎◌, ◌<◌, ◌≤◌, ◌++◌, ℕ, zero, suc, Bool, true, false, List, [], ◌∷◌, length}
use Rattle.pc_types.specs.declared.Event.{Event}
use Rattle.pc_types.specs.declared.Event.TheVariants as asked
use Rattle.pc_types.specs.declared.Refusal.{Refusal}
use Rattle.pc_types.specs.declared.Refusal.TheVariants as why
use Rattle.pc_types.specs.declared.Reply.{Reply}
use Rattle.pc_types.specs.declared.Reply.TheVariants as told
use Rattle.pc_types.specs.declared.limits.TheConstants.{SPACE_BYTES}
use Rattle.pc_model.specs.History.{History, is_open}
use Rattle.pc_model.specs.Replies.{Setting}
use Rattle.pc_model.specs.Calls.{step_of, Extends, IsAnswered}
use Rattle.pc_jobs.specs.declared.works.Job.{Job}
use Rattle.pc_jobs.specs.declared.works.Op.{Op}
use Rattle.pc_jobs.specs.declared.works.Op.TheVariants.{Get, Put, Del, Add}
use Rattle.pc_workers.specs.declared.clients.EndedTransaction.{EndedTransaction}
use Rattle.pc_workers.specs.declared.clients.EndedTransaction.TheVariants.{Committed, Died, Refused}
use Rattle.pc_workers.specs.declared.clients.TheConstants.{MOST_REPEATS}

-- the event that the session calls with for the operation
abbrev pub op_event : ℕ → Op → Event
op_event s (Get key) = asked.Get s key
op_event s (Put key value) = asked.Put s key value
op_event s (Del key) = asked.Del s key
op_event s (Add key delta) = asked.Add s key delta

-- the reply says that the operation was made
abbrev pub is_made : Reply → Bool
is_made (told.Found value) = true
is_made told.Absent = true
is_made told.Ok = true
is_made (told.Sum sum) = true
is_made other = false

-- the operation was asked for, and made
abbrev pub IsOpMade : Setting → ℕ → Op → History → History → Type 0
IsOpMade st s op early late = (reply : Reply) × (is_made reply ≡ true) × Extends st early (step_of (op_event s op) reply) late

-- it was asked for, and died
abbrev pub Dies : Setting → ℕ → Op → History → History → Type 0
Dies st s op early late = Extends st early (step_of (op_event s op) told.Died) late

-- a transaction was begun
abbrev pub WasBegun : Setting → ℕ → History → History → Type 0
WasBegun st s early late = (number : ℕ) × Extends st early (step_of (asked.Begin s) (told.Begun number)) late

-- it was committed
abbrev pub WasCommitted : Setting → ℕ → History → History → Type 0
WasCommitted st s early late = (number : ℕ) × Extends st early (step_of (asked.Commit s) (told.Committed number)) late

-- it was aborted
abbrev pub WasAborted : Setting → ℕ → History → History → Type 0
WasAborted st s early late = Extends st early (step_of (asked.Abort s) told.Aborted) late

-- the operations were made, in order
abbrev pub AreMade : Setting → ℕ → List Op → History → History → Type 0
AreMade st s [] early late = late ≡ early
AreMade st s (op ∷ ops) early late = (between : History) × IsOpMade st s op early between × AreMade st s ops between late

-- the first of the operations were made, and the next one died
pub record OneDies (st : Setting) (s : ℕ) (ops : List Op) (early late : History) : Type 0 where
  pub made : List Op
  pub next : Op
  pub left : List Op
  pub between : History
  pub parts : ops ≡ made ++ next ∷ left
  pub first : AreMade st s made early between
  pub dies : Dies st s next between late

-- the operation names a key of more than 16 bytes of its own, or a value of more than 16, a copy of which takes memory
abbrev pub TakesMemory : Op → Type 0
TakesMemory (Get key) = SPACE_BYTES + 16 < length key
TakesMemory (Put key value) = (SPACE_BYTES + 16 < length key) ⊎ (16 < length value)
TakesMemory (Del key) = SPACE_BYTES + 16 < length key
TakesMemory (Add key delta) = SPACE_BYTES + 16 < length key

-- the session, which has seen this history, was refused the operation; or an allocation failed for a copy of its key or value
abbrev pub IsRefusedOp : Setting → ℕ → Op → Refusal → History → Type 0
IsRefusedOp st s op cause seen = ((cause ≡ why.OutOfMemory) × TakesMemory op) ⊎ IsAnswered st s seen (op_event s op) (told.Refused cause)

-- it was refused the next call: the first of these operations, or the commit if none is left
abbrev pub IsRefusedNext : Setting → ℕ → List Op → History → Type 0
IsRefusedNext st s [] seen = (cause : Refusal) × IsAnswered st s seen (asked.Commit s) (told.Refused cause)
IsRefusedNext st s (op ∷ ops) seen = (cause : Refusal) × IsRefusedOp st s op cause seen

-- the first of the operations were made, and the next call was refused
pub record IsStuck (st : Setting) (s : ℕ) (ops : List Op) (early late : History) : Type 0 where
  pub made : List Op
  pub left : List Op
  pub parts : ops ≡ made ++ left
  pub first : AreMade st s made early late
  pub refused : IsRefusedNext st s left late

-- to begin was refused, and nothing was asked
abbrev pub IsNotBegun : Setting → ℕ → History → History → Type 0
IsNotBegun st s early late = (late ≡ early) × (cause : Refusal) × IsAnswered st s early (asked.Begin s) (told.Refused cause)

-- An attempt at the operations, which ended in this way: begun, made and committed; or begun, and made up to one that died, and
-- aborted; or refused to begin, or begun, and made up to the call that was refused, and aborted.
abbrev pub IsAttempt : Setting → ℕ → List Op → EndedTransaction → History → History → Type 0
IsAttempt st s ops Committed early late = (begun made : History) × WasBegun st s early begun × AreMade st s ops begun made × WasCommitted st s made late
IsAttempt st s ops Died early late = (begun dead : History) × WasBegun st s early begun × OneDies st s ops begun dead × WasAborted st s dead late
IsAttempt st s ops Refused early late = IsNotBegun st s early late ⊎ ((begun stuck : History) × WasBegun st s early begun × IsStuck st s ops begun stuck × WasAborted st s stuck late)

-- this many attempts, in order, each of which died
abbrev pub AreDeaths : Setting → ℕ → List Op → ℕ → History → History → Type 0
AreDeaths st s ops zero early late = late ≡ early
AreDeaths st s ops (suc deaths) early late = (between : History) × AreDeaths st s ops deaths early between × IsAttempt st s ops Died between late

-- how the last attempt at a job ended, after this many that died: one that is marked was committed, and another one was refused, or
-- has died as often as it may
abbrev pub IsLast : Bool → ℕ → EndedTransaction → Type 0
IsLast true deaths ended = ended ≡ Committed
IsLast false deaths ended = (ended ≡ Refused) ⊎ ((ended ≡ Died) × (deaths ≡ MOST_REPEATS))

-- A job was tried: begun again after each death, at most 10,000 times, until it was committed, if it is marked, or refused; and no
-- transaction is open then.
pub record IsTried (st : Setting) (s : ℕ) (job : Job) (mark : Bool) (early late : History) : Type 0 where
  pub deaths : ℕ
  pub few : deaths ≤ MOST_REPEATS
  pub between : History
  pub before : AreDeaths st s job.ops deaths early between
  pub ended : EndedTransaction
  pub last : IsAttempt st s job.ops ended between late
  pub is_last : IsLast mark deaths ended
  pub closed : is_open s late ≡ false

-- the jobs were tried, in order
abbrev pub AreTried : Setting → ℕ → List Bool → List Job → History → History → Type 0
AreTried st s [] [] early late = late ≡ early
AreTried st s (mark ∷ marks) (job ∷ jobs) early late = (between : History) × IsTried st s job mark early between × AreTried st s marks jobs between late
AreTried st s marks jobs early late = ⊥

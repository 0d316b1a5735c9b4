-- How far an attempt at a job has come.
use Rattle.std.specs.Prelude.{◌≡◌, ◌⊎◌, ◌<◌, ⊤, ℕ, ◌+◌, Bool, true, false, List}
use Rattle.pc_types.specs.Changes.{fits_i64}
use Rattle.pc_model.specs.History.{History}
use Rattle.pc_model.specs.Replies.{Setting}
use Rattle.pc_jobs.specs.declared.works.Op.{Op}
use Rattle.pc_jobs.specs.declared.works.Op.TheVariants.{Add}
use Rattle.pc_shared.specs.declared.session.CallAnswer.{CallAnswer}
use Rattle.pc_shared.specs.declared.session.CallAnswer.TheVariants as answer
use Rattle.pc_workers.specs.Attempts.{IsOpMade, Dies, WasBegun, WasCommitted, AreMade, OneDies, IsStuck, IsNotBegun, IsAttempt, AreDeaths}
use Rattle.pc_workers.specs.declared.clients.EndedTransaction.{EndedTransaction}
use Rattle.pc_workers.specs.declared.clients.EndedTransaction.TheVariants.{Committed, Died, Refused}
use Rattle.pc_workers.specs.declared.clients.TheConstants.{MOST_REPEATS}

-- the number that it adds, if any, is in the range of 64 bits with a sign
abbrev pub IsInRange : Op → Type 0
IsInRange (Add key delta) = fits_i64 delta ≡ true
IsInRange other = ⊤

-- the answer to the operation: it was made, or it died
abbrev pub IsOpAnswered : Setting → ℕ → Op → CallAnswer → History → History → Type 0
IsOpAnswered st s op answer.Died early late = Dies st s op early late
IsOpAnswered st s op other early late = IsOpMade st s op early late

-- an attempt that ended in this way, before its abort
abbrev pub IsCourse : Setting → ℕ → List Op → EndedTransaction → History → History → Type 0
IsCourse st s ops Committed early late = (begun made : History) × WasBegun st s early begun × AreMade st s ops begun made × WasCommitted st s made late
IsCourse st s ops Died early late = (begun : History) × WasBegun st s early begun × OneDies st s ops begun late
IsCourse st s ops Refused early late = IsNotBegun st s early late ⊎ ((begun : History) × WasBegun st s early begun × IsStuck st s ops begun late)

-- a job that had died was begun again, until it ended in this way
pub record IsRepeated (st : Setting) (s : ℕ) (ops : List Op) (ended : EndedTransaction) (early late : History) : Type 0 where
  pub deaths : ℕ
  pub few : deaths < MOST_REPEATS
  pub between : History
  pub before : AreDeaths st s ops deaths early between
  pub last : IsAttempt st s ops ended between late
  pub as_often : ended ≡ Died → deaths + 1 ≡ MOST_REPEATS

-- it is marked if it was committed
abbrev pub mark_of : EndedTransaction → Bool
mark_of Committed = true
mark_of Died = false
mark_of Refused = false

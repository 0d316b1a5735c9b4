-- The history that a session had seen is a beginning of the one that it has seen since, whatever a client asked for it.
use Rattle.std.proofs.Common.{◌≡◌, ℕ, Bool, true, false, List, [], ◌∷◌, refl, sym, subst, inl, inr}
use Rattle.pc_types.specs.declared.Event.TheVariants as asked
use Rattle.pc_types.specs.declared.Reply.TheVariants as told
use Rattle.pc_model.specs.Calls.{step_of, Extends, IsBeginning}
use Rattle.pc_model.specs.History.{History, is_open}
use Rattle.pc_model.specs.Replies.{Setting}
use Rattle.pc_types.specs.declared.Step.{Step}
use Rattle.pc_model.proofs.BeginningLaws.{beginning_self, beginning_trans}
use Rattle.pc_jobs.specs.declared.works.Op.{Op}
use Rattle.pc_workers.specs.Attempts.{AreMade, WasAborted, WasBegun, op_event}
use Rattle.pc_workers.specs.Courses.{IsCourse}
use Rattle.pc_workers.specs.declared.clients.EndedTransaction.{EndedTransaction}
use Rattle.pc_workers.specs.declared.clients.EndedTransaction.TheVariants.{Committed, Died, Refused}

-- nothing was asked
pub same_begins : (a b : History) → b ≡ a → IsBeginning a b
same_begins a b same = subst (IsBeginning a) (sym same) (beginning_self a)

module _ (st : Setting) (s : ℕ) where
  -- one call
  call_begins : (a b : History) (step : Step) → Extends st a step b → IsBeginning a b
  call_begins a b step x = (step ∷ x.1.0, x.1.1)

  made_begins : (ops : List Op) (a b : History) → AreMade st s ops a b → IsBeginning a b
  made_begins [] a b made = same_begins a b made
  made_begins (op ∷ ops) a b made =
      let first = call_begins a made.0 (step_of (op_event s op) made.1.0) made.1.2 in
      beginning_trans a made.0 b first (made_begins ops made.0 b made.2)

  begun_begins : (a b : History) → WasBegun st s a b → IsBeginning a b
  begun_begins a b begun = call_begins a b (step_of (asked.Begin s) (told.Begun begun.0)) begun.1

  -- an attempt before its abort
  pub course_begins : (ops : List Op) (ended : EndedTransaction) (a b : History) → IsCourse st s ops ended a b → IsBeginning a b
  course_begins ops Committed a b course =
      let begun = begun_begins a course.0 course.2 in
      let made = made_begins ops course.0 course.1 course.3 in
      beginning_trans a course.1 b (beginning_trans a course.0 course.1 begun made) (call_begins course.1 b (step_of (asked.Commit s) (told.Committed course.4.0)) course.4.1)
  course_begins ops Died a b course =
      let begun = begun_begins a course.0 course.1 in
      let made = made_begins course.2.made course.0 course.2.between course.2.first in
      beginning_trans a course.2.between b (beginning_trans a course.0 course.2.between begun made) (call_begins course.2.between b (step_of (op_event s course.2.next) told.Died) course.2.dies)
  course_begins ops Refused a b (inl unbegun) = same_begins a b unbegun.0
  course_begins ops Refused a b (inr course) = beginning_trans a course.0 b (begun_begins a course.0 course.1) (made_begins course.2.made course.0 b course.2.first)

-- the abort of a transaction that may be open
abort_begins : (st : Setting) (s : ℕ) (a b : History) → (is_open s a ≡ true → WasAborted st s a b) → (is_open s a ≡ false → b ≡ a) → IsBeginning a b
abort_begins st s a b opened idle = by (is_open s a) refl
  where
    by : (t : Bool) → is_open s a ≡ t → IsBeginning a b
    by true is = let x = opened is in (step_of (asked.Abort s) told.Aborted ∷ x.1.0, x.1.1)
    by false is = same_begins a b (idle is)

-- an attempt with its abort
pub attempt_begins : (st : Setting) (s n : ℕ) (ops : List Op) (ended : EndedTransaction) (a b c : History) → IsCourse st s ops ended a b → (is_open n b ≡ true → WasAborted st n b c) → (is_open n b ≡ false → c ≡ b) → IsBeginning a c
attempt_begins st s n ops ended a b c course opened idle = beginning_trans a b c (course_begins st s ops ended a b course) (abort_begins st n b c opened idle)

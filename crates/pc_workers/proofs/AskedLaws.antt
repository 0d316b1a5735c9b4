-- The answers to a session's calls, in the words of attempts at a job.
use Rattle.std.proofs.Common.{◌≡◌, ◌≢◌, ℕ, Bool, true, false, true≢false, List, Some, None, Result, Ok, Err, IfOk, IfErr, OnErr, refl, sym, ap, subst}
use Rattle.std.specs.Prelude.{MatchBool, is_err, ℤ}
use Rattle.pc_types.specs.declared.Event.TheVariants as asked
use Rattle.pc_types.specs.declared.Refusal.{Refusal}
use Rattle.pc_types.specs.declared.Reply.TheVariants as told
use Rattle.pc_model.specs.History.{History, is_open}
use Rattle.pc_model.specs.Replies.{Setting}
use Rattle.pc_model.specs.Calls.{step_of, Extends, IsAnswered}
use Rattle.pc_txn.specs.declared.got.Got.TheVariants as got
use Rattle.pc_jobs.specs.declared.works.Op.{Op}
use Rattle.pc_jobs.specs.declared.works.Op.TheVariants.{Get, Put, Del, Add}
use Rattle.pc_shared.specs.declared.session.CallAnswer.{CallAnswer}
use Rattle.pc_shared.specs.declared.session.CallAnswer.TheVariants as answer
use Rattle.pc_shared.specs.Answers.{IsReadAnswered, IsWriteAnswered, IsAddAnswered}
use Rattle.pc_shared.specs.Sitters.{Sitter}
use Rattle.pc_workers.specs.Attempts.{IsOpMade, Dies, WasBegun, WasAborted}
use Rattle.pc_workers.specs.Courses.{IsOpAnswered}
use Rattle.pc_workers.proofs.OpenLaws.{open_is_aborted, idle_is_not_aborted}

module _ (st : Setting) (s : ℕ) (a b : History) where
  read_asked : (key : List ℕ) (ans : CallAnswer) → IsReadAnswered st a s key ans b → IsOpAnswered st s (Get key) ans a b
  read_asked key ans (got.Found value, is, ext) = subst (λ (x : CallAnswer). IsOpAnswered st s (Get key) x a b) (sym is) (told.Found value, refl, ext)
  read_asked key ans (got.Absent, is, ext) = subst (λ (x : CallAnswer). IsOpAnswered st s (Get key) x a b) (sym is) (told.Absent, refl, ext)
  read_asked key ans (got.Died, is, ext) = subst (λ (x : CallAnswer). IsOpAnswered st s (Get key) x a b) (sym is) ext

  put_asked : (key value : List ℕ) (ans : CallAnswer) → IsWriteAnswered st a (asked.Put s key value) ans b → IsOpAnswered st s (Put key value) ans a b
  put_asked key value ans (true, is, ext) = subst (λ (x : CallAnswer). IsOpAnswered st s (Put key value) x a b) (sym is) (told.Ok, refl, ext)
  put_asked key value ans (false, is, ext) = subst (λ (x : CallAnswer). IsOpAnswered st s (Put key value) x a b) (sym is) ext

  del_asked : (key : List ℕ) (ans : CallAnswer) → IsWriteAnswered st a (asked.Del s key) ans b → IsOpAnswered st s (Del key) ans a b
  del_asked key ans (true, is, ext) = subst (λ (x : CallAnswer). IsOpAnswered st s (Del key) x a b) (sym is) (told.Ok, refl, ext)
  del_asked key ans (false, is, ext) = subst (λ (x : CallAnswer). IsOpAnswered st s (Del key) x a b) (sym is) ext

  add_asked : (key : List ℕ) (delta : ℤ) (ans : CallAnswer) → IsAddAnswered st a (asked.Add s key delta) ans b → IsOpAnswered st s (Add key delta) ans a b
  add_asked key delta ans (Some sum, is, ext) = subst (λ (x : CallAnswer). IsOpAnswered st s (Add key delta) x a b) (sym is) (told.Sum sum, refl, ext)
  add_asked key delta ans (None, is, ext) = subst (λ (x : CallAnswer). IsOpAnswered st s (Add key delta) x a b) (sym is) ext

  pub asked_made : (op : Op) (ans : CallAnswer) → ans ≢ answer.Died → IsOpAnswered st s op ans a b → IsOpMade st s op a b
  asked_made op answer.Found alive is = is
  asked_made op answer.Absent alive is = is
  asked_made op answer.Ok alive is = is
  asked_made op (answer.Sum sum) alive is = is
  asked_made op answer.Died alive is = absurd (alive refl)

  pub asked_dies : (op : Op) (ans : CallAnswer) → ans ≡ answer.Died → IsOpAnswered st s op ans a b → Dies st s op a b
  asked_dies op ans is asked = subst (λ (x : CallAnswer). IsOpAnswered st s op x a b) is asked

  -- ---- by the results of the calls

  pub get_call : (key : List ℕ) (result : Result CallAnswer Refusal) → IfOk result (λ ans. IsReadAnswered st a s key ans b) → IfOk result (λ ans. IsOpAnswered st s (Get key) ans a b)
  get_call key (Ok ans) is = read_asked key ans is
  get_call key (Err cause) is = tt

  pub put_call : (key value : List ℕ) (result : Result CallAnswer Refusal) → IfOk result (λ ans. IsWriteAnswered st a (asked.Put s key value) ans b) → IfOk result (λ ans. IsOpAnswered st s (Put key value) ans a b)
  put_call key value (Ok ans) is = put_asked key value ans is
  put_call key value (Err cause) is = tt

  pub del_call : (key : List ℕ) (result : Result CallAnswer Refusal) → IfOk result (λ ans. IsWriteAnswered st a (asked.Del s key) ans b) → IfOk result (λ ans. IsOpAnswered st s (Del key) ans a b)
  del_call key (Ok ans) is = del_asked key ans is
  del_call key (Err cause) is = tt

  pub add_call : (key : List ℕ) (delta : ℤ) (result : Result CallAnswer Refusal) → IfOk result (λ ans. IsAddAnswered st a (asked.Add s key delta) ans b) → IfOk result (λ ans. IsOpAnswered st s (Add key delta) ans a b)
  add_call key delta (Ok ans) is = add_asked key delta ans is
  add_call key delta (Err cause) is = tt

-- ---- an abort

module _ (st : Setting) (s : ℕ) {X : Type 0} where
  pub open_abort : (a b : History) (result : Result X Refusal) → IfOk result (λ _. Extends st a (step_of (asked.Abort s) told.Aborted) b) → IfErr result (λ cause. IsAnswered st s a (asked.Abort s) (told.Refused cause)) → is_open s a ≡ true → WasAborted st s a b
  open_abort a b (Ok done) ext refused is = ext
  open_abort a b (Err cause) ext refused is = absurd (open_is_aborted st s a is cause refused)

  pub idle_abort : (old new : Sitter) (result : Result X Refusal) → IfOk result (λ _. Extends st old.seen (step_of (asked.Abort s) told.Aborted) new.seen) → OnErr result (new ≡ old) → is_open s old.seen ≡ false → new.seen ≡ old.seen
  idle_abort old new (Ok done) ext same idle = absurd (idle_is_not_aborted st s old.seen new.seen idle ext)
  idle_abort old new (Err cause) ext same idle = ap (λ (x : Sitter). x.seen) same

-- ---- by results and tests

pub on_err : {A E : Type 0} (X : Type 0) (result : Result A E) → X → OnErr result X
on_err X (Ok a) x = tt
on_err X (Err e) x = x

pub when_true : {X : Type 0} (Y : Type 0) (b : Bool) → b ≡ true → MatchBool b X Y → X
when_true Y true is x = x
when_true Y false is y = absurd (true≢false (sym is))

pub begins_by : (st : Setting) (s : ℕ) (a b : History) (result : Result ℕ Refusal) → is_err result ≡ false → IfOk result (λ t. Extends st a (step_of (asked.Begin s) (told.Begun t)) b) → WasBegun st s a b
begins_by st s a b (Ok t) is ext = (t, ext)
begins_by st s a b (Err cause) is ext = absurd (true≢false is)

-- A call is refused if and only if its reply is a refusal.
use Rattle.std.specs.Prelude.{ℕ, Result, Ok, Err, OnErr}
use Rattle.pc_types.specs.declared.Outcome.{Outcome}
use Rattle.pc_types.specs.declared.Outcome.TheVariants.{Granted, Queued, Died}
use Rattle.pc_types.specs.declared.Refusal.{Refusal}
use Rattle.pc_answers.specs.declared.answers.GetAnswer.{GetAnswer}
use Rattle.pc_answers.specs.declared.answers.GetAnswer.TheVariants as got
use Rattle.pc_answers.specs.declared.answers.AddAnswer.{AddAnswer}
use Rattle.pc_answers.specs.declared.answers.AddAnswer.TheVariants as added
use Rattle.pc_answers.specs.declared.answers.TakeAnswer.{TakeAnswer}
use Rattle.pc_answers.specs.declared.answers.TakeAnswer.TheVariants as taken
use Rattle.pc_answers.specs.Replies.{begin_reply, get_reply, write_reply, add_reply, commit_reply, abort_reply, take_reply}
use Rattle.pc_engine.specs.Stands.{IfRefused}

pub begin_refused : (r : Result ℕ Refusal) (Fact : Type 0) → IfRefused (begin_reply r) Fact → OnErr r Fact
begin_refused (Ok n) Fact fact = tt
begin_refused (Err why) Fact fact = fact

pub get_refused : (r : Result GetAnswer Refusal) (Fact : Type 0) → IfRefused (get_reply r) Fact → OnErr r Fact
get_refused (Ok a) Fact fact = tt
get_refused (Err why) Fact fact = fact

pub write_refused : (r : Result Outcome Refusal) (Fact : Type 0) → IfRefused (write_reply r) Fact → OnErr r Fact
write_refused (Ok o) Fact fact = tt
write_refused (Err why) Fact fact = fact

pub add_refused : (r : Result AddAnswer Refusal) (Fact : Type 0) → IfRefused (add_reply r) Fact → OnErr r Fact
add_refused (Ok a) Fact fact = tt
add_refused (Err why) Fact fact = fact

pub commit_refused : (r : Result ℕ Refusal) (Fact : Type 0) → IfRefused (commit_reply r) Fact → OnErr r Fact
commit_refused (Ok n) Fact fact = tt
commit_refused (Err why) Fact fact = fact

pub abort_refused : (r : Result (Unit {0}) Refusal) (Fact : Type 0) → IfRefused (abort_reply r) Fact → OnErr r Fact
abort_refused (Ok u) Fact fact = tt
abort_refused (Err why) Fact fact = fact

pub take_refused : (r : Result TakeAnswer Refusal) (Fact : Type 0) → IfRefused (take_reply r) Fact → OnErr r Fact
take_refused (Ok a) Fact fact = tt
take_refused (Err why) Fact fact = fact

pub refused_begin : (r : Result ℕ Refusal) (Fact : Type 0) → OnErr r Fact → IfRefused (begin_reply r) Fact
refused_begin (Ok n) Fact fact = tt
refused_begin (Err why) Fact fact = fact

pub refused_get : (r : Result GetAnswer Refusal) (Fact : Type 0) → OnErr r Fact → IfRefused (get_reply r) Fact
refused_get (Ok (got.Found value)) Fact fact = tt
refused_get (Ok got.Absent) Fact fact = tt
refused_get (Ok got.Wait) Fact fact = tt
refused_get (Ok got.Died) Fact fact = tt
refused_get (Err why) Fact fact = fact

pub refused_write : (r : Result Outcome Refusal) (Fact : Type 0) → OnErr r Fact → IfRefused (write_reply r) Fact
refused_write (Ok Granted) Fact fact = tt
refused_write (Ok Queued) Fact fact = tt
refused_write (Ok Died) Fact fact = tt
refused_write (Err why) Fact fact = fact

pub refused_add : (r : Result AddAnswer Refusal) (Fact : Type 0) → OnErr r Fact → IfRefused (add_reply r) Fact
refused_add (Ok (added.Sum sum)) Fact fact = tt
refused_add (Ok added.Wait) Fact fact = tt
refused_add (Ok added.Died) Fact fact = tt
refused_add (Err why) Fact fact = fact

pub refused_commit : (r : Result ℕ Refusal) (Fact : Type 0) → OnErr r Fact → IfRefused (commit_reply r) Fact
refused_commit (Ok n) Fact fact = tt
refused_commit (Err why) Fact fact = fact

pub refused_abort : (r : Result (Unit {0}) Refusal) (Fact : Type 0) → OnErr r Fact → IfRefused (abort_reply r) Fact
refused_abort (Ok u) Fact fact = tt
refused_abort (Err why) Fact fact = fact

pub refused_take : (r : Result TakeAnswer Refusal) (Fact : Type 0) → OnErr r Fact → IfRefused (take_reply r) Fact
refused_take (Ok (taken.Took key content)) Fact fact = tt
refused_take (Ok taken.NoneLeft) Fact fact = tt
refused_take (Err why) Fact fact = fact

-- The reply that represents a call's answer.
use Rattle.std.specs.Prelude.{ℕ, Result, Ok, Err}
use Rattle.pc_types.specs.declared.Outcome.{Outcome}
use Rattle.pc_types.specs.declared.Refusal.{Refusal}
use Rattle.pc_types.specs.declared.Reply.{Reply}
use Rattle.pc_types.specs.declared.Reply.TheVariants as told
use Rattle.pc_model.specs.Replies.{by_outcome}
use Rattle.pc_answers.specs.declared.answers.GetAnswer.{GetAnswer}
use Rattle.pc_answers.specs.declared.answers.GetAnswer.TheVariants as got
use Rattle.pc_answers.specs.declared.answers.AddAnswer.{AddAnswer}
use Rattle.pc_answers.specs.declared.answers.AddAnswer.TheVariants as added
use Rattle.pc_answers.specs.declared.answers.TakeAnswer.{TakeAnswer}
use Rattle.pc_answers.specs.declared.answers.TakeAnswer.TheVariants as taken

-- the reply to a begin: the transaction's number
abbrev pub begin_reply : Result ℕ Refusal → Reply
begin_reply (Ok number) = told.Begun number
begin_reply (Err why) = told.Refused why

-- the reply to a get that isn't refused
abbrev pub reply_to_get : GetAnswer → Reply
reply_to_get (got.Found value) = told.Found value
reply_to_get got.Absent = told.Absent
reply_to_get got.Wait = told.Wait
reply_to_get got.Died = told.Died

-- the reply to a get
abbrev pub get_reply : Result GetAnswer Refusal → Reply
get_reply (Ok answer) = reply_to_get answer
get_reply (Err why) = told.Refused why

-- the reply to a put or a del
abbrev pub write_reply : Result Outcome Refusal → Reply
write_reply (Ok outcome) = by_outcome outcome told.Ok
write_reply (Err why) = told.Refused why

-- the reply to an add that isn't refused
abbrev pub reply_to_add : AddAnswer → Reply
reply_to_add (added.Sum sum) = told.Sum sum
reply_to_add added.Wait = told.Wait
reply_to_add added.Died = told.Died

-- the reply to an add
abbrev pub add_reply : Result AddAnswer Refusal → Reply
add_reply (Ok answer) = reply_to_add answer
add_reply (Err why) = told.Refused why

-- the reply to a commit: the number of its entry in the log
abbrev pub commit_reply : Result ℕ Refusal → Reply
commit_reply (Ok number) = told.Committed number
commit_reply (Err why) = told.Refused why

-- the reply to an abort
abbrev pub abort_reply : Result (Unit {0}) Refusal → Reply
abort_reply (Ok made) = told.Aborted
abort_reply (Err why) = told.Refused why

-- the reply to a take that isn't refused
abbrev pub reply_to_take : TakeAnswer → Reply
reply_to_take (taken.Took key content) = told.Took key content
reply_to_take taken.NoneLeft = told.NoneLeft

-- the reply to a take
abbrev pub take_reply : Result TakeAnswer Refusal → Reply
take_reply (Ok answer) = reply_to_take answer
take_reply (Err why) = told.Refused why

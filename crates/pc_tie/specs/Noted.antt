-- The step that a noted call is.
use Rattle.pc_types.specs.declared.Event.TheVariants as asked
use Rattle.pc_types.specs.declared.Step.{Step}
use Rattle.pc_model.specs.Calls.{step_of}
use Rattle.pc_answers.specs.Replies.{begin_reply, get_reply, write_reply, add_reply, commit_reply, abort_reply, take_reply}
use Rattle.pc_tie.specs.declared.noted.NotedCall.{NotedCall}
use Rattle.pc_tie.specs.declared.noted.NotedCall.TheVariants as noted

-- the event that was asked, with the reply that represents its answer
abbrev pub step_in : NotedCall → Step
step_in (noted.Begin s answer) = step_of (asked.Begin s.value) (begin_reply answer.value)
step_in (noted.Get s key answer) = step_of (asked.Get s.value key.value) (get_reply answer.value)
step_in (noted.Put s key value answer) = step_of (asked.Put s.value key.value value.value) (write_reply answer.value)
step_in (noted.Del s key answer) = step_of (asked.Del s.value key.value) (write_reply answer.value)
step_in (noted.Add s key delta answer) = step_of (asked.Add s.value key.value delta.value) (add_reply answer.value)
step_in (noted.Commit s answer) = step_of (asked.Commit s.value) (commit_reply answer.value)
step_in (noted.Abort s answer) = step_of (asked.Abort s.value) (abort_reply answer.value)
step_in (noted.Take answer) = step_of asked.Take (take_reply answer.value)
step_in (noted.Any event reply) = step_of event.value reply.value

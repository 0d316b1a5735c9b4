-- Of which kinds the replies to an event are.
use Rattle.std.specs.Prelude.{⊤}
use Rattle.pc_types.specs.declared.Event.{Event}
use Rattle.pc_types.specs.declared.Event.TheVariants as asked
use Rattle.pc_types.specs.declared.Reply.{Reply}
use Rattle.pc_types.specs.declared.Reply.TheVariants as told

-- a begin's reply
abbrev pub IsBeginReply : Reply → Type 0
IsBeginReply (told.Begun t) = ⊤
IsBeginReply (told.Refused why) = ⊤
IsBeginReply other = ⊥

-- a read's
abbrev pub IsGetReply : Reply → Type 0
IsGetReply (told.Found value) = ⊤
IsGetReply told.Absent = ⊤
IsGetReply told.Wait = ⊤
IsGetReply told.Died = ⊤
IsGetReply (told.Refused why) = ⊤
IsGetReply other = ⊥

-- a put's or a removal's
abbrev pub IsWriteReply : Reply → Type 0
IsWriteReply told.Ok = ⊤
IsWriteReply told.Wait = ⊤
IsWriteReply told.Died = ⊤
IsWriteReply (told.Refused why) = ⊤
IsWriteReply other = ⊥

-- an add's
abbrev pub IsAddReply : Reply → Type 0
IsAddReply (told.Sum number) = ⊤
IsAddReply told.Wait = ⊤
IsAddReply told.Died = ⊤
IsAddReply (told.Refused why) = ⊤
IsAddReply other = ⊥

-- a commit's
abbrev pub IsCommitReply : Reply → Type 0
IsCommitReply (told.Committed number) = ⊤
IsCommitReply (told.Refused why) = ⊤
IsCommitReply other = ⊥

-- an abort's
abbrev pub IsAbortReply : Reply → Type 0
IsAbortReply told.Aborted = ⊤
IsAbortReply (told.Refused why) = ⊤
IsAbortReply other = ⊥

-- that of a change of the phase, but the end of a capture
abbrev pub IsMoveReply : Reply → Type 0
IsMoveReply (told.Phase phase point) = ⊤
IsMoveReply (told.NotYet count) = ⊤
IsMoveReply (told.Refused why) = ⊤
IsMoveReply other = ⊥

-- a take's
abbrev pub IsTakeReply : Reply → Type 0
IsTakeReply (told.Took key content) = ⊤
IsTakeReply told.NoneLeft = ⊤
IsTakeReply (told.Refused why) = ⊤
IsTakeReply other = ⊥

-- that of the end of a capture
abbrev pub IsDoneReply : Reply → Type 0
IsDoneReply (told.PartDone point file entries) = ⊤
IsDoneReply (told.NotYet count) = ⊤
IsDoneReply (told.Refused why) = ⊤
IsDoneReply other = ⊥

-- a join's
abbrev pub IsJoinReply : Reply → Type 0
IsJoinReply (told.File file points entries) = ⊤
IsJoinReply (told.Refused why) = ⊤
IsJoinReply other = ⊥

-- the reply is of a kind that the event may have
abbrev pub IsReplyTo : Event → Reply → Type 0
IsReplyTo (asked.Begin s) reply = IsBeginReply reply
IsReplyTo (asked.Get s key) reply = IsGetReply reply
IsReplyTo (asked.Put s key value) reply = IsWriteReply reply
IsReplyTo (asked.Del s key) reply = IsWriteReply reply
IsReplyTo (asked.Add s key delta) reply = IsAddReply reply
IsReplyTo (asked.Commit s) reply = IsCommitReply reply
IsReplyTo (asked.Abort s) reply = IsAbortReply reply
IsReplyTo asked.StartPoint reply = IsMoveReply reply
IsReplyTo asked.Seal reply = IsMoveReply reply
IsReplyTo asked.OpenCapture reply = IsMoveReply reply
IsReplyTo asked.Take reply = IsTakeReply reply
IsReplyTo asked.Done reply = IsDoneReply reply
IsReplyTo asked.Rest reply = IsMoveReply reply
IsReplyTo (asked.Join a b) reply = IsJoinReply reply

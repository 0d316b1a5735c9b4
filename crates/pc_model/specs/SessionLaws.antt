-- Laws of sessions' calls and receipts, and of prefixes of histories.
use Rattle.std.specs.Prelude.{◌≡◌, ℕ, List, [], ◌∷◌, ◌++◌, Some, ⊤}
use Rattle.pc_types.specs.declared.Entry.{Entry}
use Rattle.pc_types.specs.declared.Event.{Event}
use Rattle.pc_types.specs.declared.Event.TheVariants as asked
use Rattle.pc_types.specs.declared.Reply.{Reply}
use Rattle.pc_types.specs.declared.Step.{Step}
use Rattle.pc_model.specs.History.{History, writes_of, log_of}
use Rattle.pc_model.specs.Sets as set
use Rattle.pc_model.specs.Files.{File, shelf, file_at}
use Rattle.pc_model.specs.Replies.{Setting, IsLegal, IsLegalHistory}
use Rattle.pc_model.specs.Standing.{HasLegalEffects, IsOfItsPoints}
use Rattle.pc_model.specs.Calls.{session_of, calls_of, IsBeginning, Extends}
use Rattle.pc_model.specs.ReplyKinds.{IsReplyTo}
use Rattle.pc_model.specs.Receipts.{own_by, own_of, AreExact}

-- the event is no join
abbrev pub IsNoJoin : Event → Type 0
IsNoJoin (asked.Join a b) = ⊥
IsNoJoin other = ⊤

-- no step of the history asked for a join
abbrev pub HasNoJoins : History → Type 0
HasNoJoins [] = ⊤
HasNoJoins (step ∷ history) = IsNoJoin step.event × HasNoJoins history

-- A prefix of a legal history is legal.
abbrev pub BeginningsAreLegal : Type 0
BeginningsAreLegal = (st : Setting) (early late : History) → IsLegalHistory st late → IsBeginning early late → IsLegalHistory st early

-- A session's own calls determine what it has written.
abbrev pub WritesAreOwnCalls : Type 0
WritesAreOwnCalls = (s : ℕ) (history : History) → writes_of s (calls_of s history) ≡ writes_of s history

-- A session's own calls determine what it keeps.
abbrev pub OwnIsOfOwnCalls : Type 0
OwnIsOfOwnCalls = (s : ℕ) (history : History) → own_of s (calls_of s history) ≡ own_of s history

-- A session's notes after a call are those that the call makes of its notes before.
abbrev pub CallsMakeOwn : Type 0
CallsMakeOwn = (st : Setting) (before : History) (step : Step) (after : History) → Extends st before step after → own_of (session_of step.event) after ≡ own_by (session_of step.event) step (own_of (session_of step.event) before)

-- After a legal history the receipts of each session are exact.
abbrev pub ReceiptsAreExact : Type 0
ReceiptsAreExact = (st : Setting) (s : ℕ) (history : History) → IsLegalHistory st history → AreExact st.base (log_of history) s (own_of s history).receipts

-- A legal reply is of a kind that its event may have.
abbrev pub LegalRepliesFit : Type 0
LegalRepliesFit = (st : Setting) (history : History) (event : Event) (reply : Reply) → IsLegal st history event reply → IsReplyTo event reply

-- The log of a prefix is a prefix of the log.
abbrev pub LogsGrow : Type 0
LogsGrow = (early late : History) → IsBeginning early late → (more : List Entry) × (log_of late ≡ log_of early ++ more)

-- A file that is that of its points by a prefix of a legal history is so by all of it.
abbrev pub FilesStay : Type 0
FilesStay = (st : Setting) (early late : History) (file : File) → IsLegalHistory st late → IsBeginning early late →
    IsOfItsPoints st.run st.base (log_of early) file → IsOfItsPoints st.run st.base (log_of late) file

-- In a legal history without joins file f is that of point f.
abbrev pub FilesAreNumbered : Type 0
FilesAreNumbered = (st : Setting) (history : History) (f : ℕ) (file : File) → HasLegalEffects st history → HasNoJoins history →
    file_at (shelf st.run history) f ≡ Some file → file.points ≡ set.insert set.empty f

-- Laws of the definitions: of replay, of points, of replies and of reads.
use Rattle.std.specs.Prelude.{◌≡◌, ℕ, ◌+◌, ◌≤◌, ◌<◌, List, ◌∷◌, ◌++◌, [], Option, Some, None, ℤ, FitsSigned, IsTrue, IsFalse, Contains}
use Rattle.std.specs.Int.{w64}
use Rattle.pc_types.specs.declared.Change.{Change}
use Rattle.pc_types.specs.declared.Change.TheVariants.{Add}
use Rattle.pc_types.specs.declared.Write.{Write}
use Rattle.pc_types.specs.Changes.{number_text, content_number, added, changed_content, merged}
use Rattle.pc_model.specs.Changes.{Applies, AllApplyInTurn, AddsApply, merged_writes}
use Rattle.pc_types.specs.declared.Entry.{Entry}
use Rattle.pc_types.specs.declared.Event.{Event}
use Rattle.pc_types.specs.declared.Reply.{Reply}
use Rattle.pc_types.specs.declared.Step.{Step}
use Rattle.pc_model.specs.Maps.{get}
use Rattle.pc_model.specs.Database.{Database, applied, applied_all, write_of}
use Rattle.pc_model.specs.Log.{after, state_at}
use Rattle.pc_model.specs.Standing.{PrecedesNext, HasLegalEffects, HasTokensInOrder, IsOfItsPoints, JoinsWell, is_past_token}
use Rattle.pc_model.specs.History.{History, log_of, phase_of, point_of, contents}
use Rattle.pc_model.specs.Points.{is_among, cycle, touched, part_of, joined, content, laid}
use Rattle.pc_model.specs.Sets as set
use Rattle.pc_model.specs.Sets.{Set, number_order}
use Rattle.pc_model.specs.Files.{File, shelf}
use Rattle.pc_model.specs.Replies.{Setting, IsLegal, IsLegalHistory}
use Rattle.pc_model.specs.Locks.{queue_of}
use Rattle.pc_model.specs.Queues.{IsLegalQueue}
use Rattle.pc_model.specs.Reads.{HasRightReads}
use Rattle.pc_model.specs.Quiet.{IsQuiet}
use Rattle.pc_model.specs.Headline.{TakesEachKeyOnce, TakesPointValue, IsMade, HasHeadline, is_taking}

-- A number is read of its own eight bytes.
abbrev pub NumbersAreRead : Type 0
NumbersAreRead = (z : ℤ) → FitsSigned w64 z → content_number (Some (number_text z)) ≡ Some z

-- Two changes of a key in a row, each of which applies, are the merged one, which applies too.
abbrev pub ChangesMerge : Type 0
ChangesMerge = (a b : Change) (there : Option (List ℕ)) → Applies a there → Applies b (changed_content a there) → (changed_content (merged a b) there ≡ changed_content b (changed_content a there)) × Applies (merged a b) there

-- The final writes of a transaction, one for each key, do what its writes did in order, if each applied.
abbrev pub FinalWritesAgree : Type 0
FinalWritesAgree = (db : Database) (ws : List Write) → AllApplyInTurn db ws → applied_all db (merged_writes [] ws) ≡ applied_all db ws

-- An add that doesn't apply changes nothing.
abbrev pub OtherAddsDoNothing : Type 0
OtherAddsDoNothing = (db : Database) (key : List ℕ) (d : ℤ) → added d (get db key) ≡ None → applied db (write_of key (Add d)) ≡ db

-- Replay of a log in two pieces is replay of the second on the replay of the first.
abbrev pub ReplaysInPieces : Type 0
ReplaysInPieces = (base : Database) (log more : List Entry) → after base (log ++ more) ≡ after (after base log) more

-- The state of the next point is the replay of its cycle on the state of this point.
abbrev pub CyclesMakeStates : Type 0
CyclesMakeStates = (base : Database) (log : List Entry) (point : ℕ) → PrecedesNext point log → after (state_at base log point) (cycle (point + 1) log) ≡ state_at base log (point + 1)

-- A key that no commit of the next point's cycle wrote has the same content at both points.
abbrev pub UntouchedKeysStay : Type 0
UntouchedKeysStay = (base : Database) (log : List Entry) (point : ℕ) (key : List ℕ) → PrecedesNext point log → IsFalse (is_among (touched (point + 1) log) key) →
    get (state_at base log (point + 1)) key ≡ get (state_at base log point) key

-- The state of the next point is the state of this point with the next point's part applied to it.
abbrev pub PartsMakeStates : Type 0
PartsMakeStates = (base : Database) (log : List Entry) (point : ℕ) → PrecedesNext point log → laid (state_at base log point) point (part_of base log (point + 1)) ≡ state_at base log (point + 1)

-- The content of a set of points, all from b + 1 to n among them and none above n, applied to the state of b, is the state of
-- n.
abbrev pub ContentsMakeStates : Type 0
ContentsMakeStates = (base : Database) (log : List Entry) (b n : ℕ) (points : Set number_order) → b ≤ n → ((p : ℕ) → p < n → PrecedesNext p log) →
    ((p : ℕ) → IsTrue (set.contains points p) → p ≤ n) → ((p : ℕ) → b < p → p ≤ n → IsTrue (set.contains points p)) →
    laid (state_at base log b) b (content base log (set.items points)) ≡ state_at base log n

-- After every history every event has a legal reply.
abbrev pub EveryEventHasALegalReply : Type 0
EveryEventHasALegalReply = (st : Setting) (history : History) (event : Event) → (reply : Reply) × IsLegal st history event reply

-- Serial truth: in a legal history, of however many sessions, the reads and the sums of each committed transaction are
-- correct.
abbrev pub CommittedReadsAreRight : Type 0
CommittedReadsAreRight = (st : Setting) (history : History) → IsLegalHistory st history → HasRightReads st.base history

-- The adds of a legal history apply: in its log each finds a number in the database right before its commit, and the sum fits.
abbrev pub AddsOfRunsApply : Type 0
AddsOfRunsApply = (st : Setting) (history : History) → IsLegalHistory st history → AddsApply st.base (log_of history)

-- After a legal history no two granted requests of a key conflict.
abbrev pub LocksNeverConflict : Type 0
LocksNeverConflict = (st : Setting) (history : History) (key : List ℕ) → IsLegalHistory st history → IsLegalQueue (queue_of key history)

-- Each step of a legal history has a legal effect.
abbrev pub LegalHistoriesHaveLegalEffects : Type 0
LegalHistoriesHaveLegalEffects = (st : Setting) (history : History) → IsLegalHistory st history → HasLegalEffects st history

-- The tokens of points are in the log in order, and none is left out.
abbrev pub TokensStandInOrder : Type 0
TokensStandInOrder = (st : Setting) (history : History) → HasLegalEffects st history → HasTokensInOrder history

-- Each touched key is taken once.
abbrev pub EachKeyIsTakenOnce : Type 0
EachKeyIsTakenOnce = (st : Setting) (history : History) → HasLegalEffects st history → TakesEachKeyOnce history

-- In resolve and capture, while keys may be left to take, every step leaves the state of the point as it is.
abbrev pub PointStatesStay : Type 0
PointStatesStay =
    (st : Setting) (history : History) (step : Step) → HasLegalEffects st (step ∷ history) → IsTrue (is_taking (phase_of history)) →
    state_at st.base (log_of (step ∷ history)) (point_of (step ∷ history)) ≡ state_at st.base (log_of history) (point_of history)

-- In a quiet run the committed contents are those of the point, from its token to the end of its cycle.
abbrev pub QuietContentsStay : Type 0
QuietContentsStay = (st : Setting) (history : History) → HasLegalEffects st history → IsQuiet st history → IsTrue (is_past_token (phase_of history)) →
    contents st.base history ≡ state_at st.base (log_of history) (point_of history)

-- The join of the contents of two sets of points is the content of their union.
abbrev pub JoinsAreContents : Type 0
JoinsAreContents = (base : Database) (log : List Entry) (points others : Set number_order) →
    joined (content base log (set.items points)) (content base log (set.items others)) ≡ content base log (set.items (set.union points others))

-- If each Take carried its key's content at the point, each file of the shelf is that of its points.
abbrev pub FilesAreOfTheirPoints : Type 0
FilesAreOfTheirPoints = (st : Setting) (history : History) → HasLegalEffects st history → TakesPointValue st.base history →
    (file : File) → Contains (shelf st.run history) file → IsOfItsPoints st.run st.base (log_of history) file

-- Any two files made of the shelf join, and give the file of the points of both.
abbrev pub FilesJoinWell : Type 0
FilesJoinWell = (st : Setting) (history : History) → HasLegalEffects st history → TakesPointValue st.base history →
    (a b : File) → IsMade (shelf st.run history) a → IsMade (shelf st.run history) b → JoinsWell st.run st.base (log_of history) a b

-- The headline: files made of the shelf by joins represent the states of their points.
abbrev pub FilesAreStates : Type 0
FilesAreStates = (st : Setting) (history : History) → HasLegalEffects st history → TakesPointValue st.base history → HasHeadline st history

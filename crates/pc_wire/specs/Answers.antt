-- The answer, as numbers and bytes.
use Rattle.std.specs.Prelude.{ℕ, pos, List, [], length, Option, None, Some}
use Rattle.pc_types.specs.Keys.{space_of, own_bytes}
use Rattle.pc_types.specs.declared.Phase.{Phase}
use Rattle.pc_types.specs.declared.Phase.TheVariants as phase
use Rattle.pc_types.specs.declared.Reply.{Reply}
use Rattle.pc_types.specs.declared.Reply.TheVariants as told
use Rattle.pc_types.specs.declared.refusal.Refusal.{Refusal}
use Rattle.pc_types.specs.declared.refusal.Refusal.TheVariants as why
use Rattle.pc_wire.specs.declared.answers.Answer.{Answer}
use Rattle.pc_wire.specs.declared.codes.TheConstants.{BEGUN, FOUND, ABSENT, MADE, SUM, WAIT, DIED, COMMITTED, ABORTED, PHASE, NOT_YET, TOOK, TOOK_ABSENT, NONE_LEFT, PART_DONE, JOINED, REFUSED, TEXT}

-- an answer of this kind with nothing else in it
abbrev pub plain : ℕ → Answer
plain kind = record { kind = kind; refusal = 0; number = 0; entries = 0; file = 0; phase = 0; sum = pos 0; space = 0; key_bytes = 0; value_bytes = 0 }

abbrev pub phase_code : Phase → ℕ
phase_code phase.Rest = 0
phase_code phase.Prepare = 1
phase_code phase.Resolve = 2
phase_code phase.Capture = 3
phase_code phase.Complete = 4

-- the number of a refusal
abbrev pub refusal_number : Refusal → ℕ
refusal_number why.OutOfMemory = 1
refusal_number why.Full = 2
refusal_number why.KeyLength = 3
refusal_number why.ValueLength = 4
refusal_number why.NoTransaction = 5
refusal_number why.AlreadyBegun = 6
refusal_number why.MustAbort = 7
refusal_number why.WrongPhase = 8
refusal_number why.TooManyWrites = 9
refusal_number why.LogFull = 10
refusal_number why.PointsFull = 11
refusal_number why.NoSession = 12
refusal_number why.NoFile = 13
refusal_number why.OtherRun = 14
refusal_number why.Conflict = 15
refusal_number (why.Gap point) = 16
refusal_number why.ShelfFull = 17
refusal_number why.StillWaiting = 18
refusal_number why.NotNumber = 19
refusal_number why.Short = 20
refusal_number why.BadMagic = 21
refusal_number why.BadRanges = 22
refusal_number why.KeyOrder = 23
refusal_number why.BadKind = 24
refusal_number why.BadLength = 25
refusal_number why.Trailing = 26
refusal_number why.NotCovered = 27
refusal_number why.TokenOrder = 28
refusal_number why.Device = 30
refusal_number why.OutOfRange = 31

abbrev pub gap_point : Refusal → ℕ
gap_point (why.Gap point) = point
gap_point other = 0

-- the answer of a refusal
abbrev pub refusal_told : Refusal → Answer
refusal_told why = record (plain REFUSED) { refusal = refusal_number why; number = gap_point why }

-- the answer that shows a text of that many bytes and that many entries
abbrev pub text_told : ℕ → ℕ → Answer
text_told bytes entries = record (plain TEXT) { entries = entries; value_bytes = bytes }

abbrev pub content_bytes : Option (List ℕ) → List ℕ
content_bytes None = []
content_bytes (Some value) = value

-- a taken key, with what it had
abbrev pub taken_told : List ℕ → Option (List ℕ) → Answer
taken_told key None = record (plain TOOK_ABSENT) { space = space_of key; key_bytes = length (own_bytes key) }
taken_told key (Some value) = record (plain TOOK) { space = space_of key; key_bytes = length (own_bytes key); value_bytes = length value }

-- the numbers of a reply
abbrev pub answer_of_reply : Reply → Answer
answer_of_reply (told.Begun txn) = record (plain BEGUN) { number = txn }
answer_of_reply (told.Found value) = record (plain FOUND) { value_bytes = length value }
answer_of_reply told.Absent = plain ABSENT
answer_of_reply told.Ok = plain MADE
answer_of_reply (told.Sum sum) = record (plain SUM) { sum = sum }
answer_of_reply told.Wait = plain WAIT
answer_of_reply told.Died = plain DIED
answer_of_reply (told.Committed lsn) = record (plain COMMITTED) { number = lsn }
answer_of_reply told.Aborted = plain ABORTED
answer_of_reply (told.Phase phase point) = record (plain PHASE) { number = point; phase = phase_code phase }
answer_of_reply (told.NotYet count) = record (plain NOT_YET) { number = count }
answer_of_reply (told.Took key content) = taken_told key content
answer_of_reply told.NoneLeft = plain NONE_LEFT
answer_of_reply (told.PartDone point file entries) = record (plain PART_DONE) { number = point; entries = entries; file = file }
answer_of_reply (told.File file points entries) = record (plain JOINED) { number = length points; entries = entries; file = file }
answer_of_reply (told.Refused why) = refusal_told why

-- the own bytes of the key that a reply has
abbrev pub key_of_reply : Reply → List ℕ
key_of_reply (told.Took key content) = own_bytes key
key_of_reply other = []

-- the bytes of the value that a reply has
abbrev pub value_of_reply : Reply → List ℕ
value_of_reply (told.Found value) = value
value_of_reply (told.Took key content) = content_bytes content
value_of_reply other = []

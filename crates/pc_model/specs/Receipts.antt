-- A session's notes of its own calls: whether its transaction is open, what that has written and read, and a receipt for
-- each commit. All of it is read off the history; and when receipts are exact by a log.
use Rattle.std.specs.Prelude.{◌≡◌, ℕ, ◌+◌, ◌<◌, ◌==◌, ◌||◌, Bool, false, List, [], ◌∷◌, ◌++◌, length, Option, is_some, if◌then◌else◌, All}
use Rattle.std.specs.List.{list_any, AllPairs}
use Rattle.pc_types.specs.declared.Event.{Event}
use Rattle.pc_types.specs.declared.Event.TheVariants as asked
use Rattle.pc_types.specs.declared.Reply.{Reply}
use Rattle.pc_types.specs.declared.Reply.TheVariants as told
use Rattle.pc_types.specs.declared.Entry.{Entry}
use Rattle.pc_types.specs.declared.Entry.TheVariants as logged
use Rattle.pc_types.specs.declared.Step.{Step}
use Rattle.pc_types.specs.declared.Write.{Write}
use Rattle.pc_types.specs.declared.Receipt.{Receipt}
use Rattle.pc_model.specs.Maps.{get}
use Rattle.pc_model.specs.Database.{Database, same_bytes, written}
use Rattle.pc_model.specs.Log.{after}
use Rattle.pc_model.specs.History.{History, Effect, effect, writes_by, open_by}
use Rattle.pc_model.specs.History.Effect.{Begins, Reads}

-- a read: the key, and what was answered
abbrev pub Read : Type 0
Read = List ℕ × Option (List ℕ)

-- the key was read
abbrev pub is_read : List Read → List ℕ → Bool
is_read reads key = list_any (λ r. same_bytes r.0 key) reads

-- the reads with one more, if the transaction has neither written nor read the key before
abbrev pub with_read : List Write → List Read → List ℕ → Option (List ℕ) → List Read
with_read writes reads key answer = if is_some (written writes key) || is_read reads key then reads else reads ++ (key, answer) ∷ []

-- the session's reads after this effect, given its writes and reads before
abbrev pub reads_by : ℕ → Effect → List Write → List Read → List Read
reads_by s (Begins t) writes reads = if t == s then [] else reads
reads_by s (Reads t key answer) writes reads = if t == s then with_read writes reads key answer else reads
reads_by s other writes reads = reads

-- what a session keeps: whether its transaction is open, the writes and reads of its last one, and its receipts
pub record Own : Type 0 where
  pub is_open : Bool
  pub writes : List Write
  pub reads : List Read
  pub receipts : List Receipt

abbrev pub own_record : Bool → List Write → List Read → List Receipt → Own
own_record is_open writes reads receipts = record { is_open = is_open; writes = writes; reads = reads; receipts = receipts }

-- the receipt of a commit with this number
abbrev pub receipt_of : ℕ → ℕ → Own → Receipt
receipt_of s number o = record { number = number; session = s; reads = o.reads; writes = o.writes }

-- the receipts after a commit that was so answered
abbrev pub receipts_by_commit : ℕ → ℕ → Reply → Own → List Receipt
receipts_by_commit s t (told.Committed number) o = if t == s then o.receipts ++ receipt_of s number o ∷ [] else o.receipts
receipts_by_commit s t other o = o.receipts

-- the session's receipts after a step
abbrev pub receipts_by : ℕ → Event → Reply → Own → List Receipt
receipts_by s (asked.Commit t) reply o = receipts_by_commit s t reply o
receipts_by s other reply o = o.receipts

-- what the session keeps after a step
abbrev pub own_by : ℕ → Step → Own → Own
own_by s step o =
    own_record (open_by s (effect step) o.is_open) (writes_by s (effect step) o.writes) (reads_by s (effect step) o.writes o.reads) (receipts_by s step.event step.reply o)

-- what the session keeps after a history
abbrev pub own_of : ℕ → History → Own
own_of s [] = own_record false [] [] []
own_of s (step ∷ history) = own_by s step (own_of s history)

-- each read answered what its key has in the database
abbrev pub AreRight : Database → List Read → Type 0
AreRight db reads = All (λ r. r.1 ≡ get db r.0) reads

-- The receipt is that of the session's commit right after these entries of the log: its number is the entry's, and its reads
-- answered what their keys have in the database before it.
pub record IsReceiptAt (base : Database) (s : ℕ) (front : List Entry) (r : Receipt) : Type 0 where
  pub number : r.number ≡ length front + 1
  pub session : r.session ≡ s
  pub reads : AreRight (after base front) r.reads

-- the receipt is that of a commit of the session in the log, and has the writes of its entry
abbrev pub IsReceipt : Database → List Entry → ℕ → Receipt → Type 0
IsReceipt base log s r = (front behind : List Entry) × (log ≡ front ++ logged.Commit s r.writes ∷ behind) × IsReceiptAt base s front r

-- the first receipt's entry is before the second one's
abbrev pub IsEarlier : Receipt → Receipt → Type 0
IsEarlier a b = a.number < b.number

-- the receipt of this number is among them
abbrev pub HasNumber : List Receipt → ℕ → Type 0
HasNumber rs number = (earlier : List Receipt) × (r : Receipt) × (later : List Receipt) × (rs ≡ earlier ++ r ∷ later) × (r.number ≡ number)

-- Exact receipts: each is that of a commit of the session in the log, their numbers ascend, and each commit of the session
-- has one.
pub record AreExact (base : Database) (log : List Entry) (s : ℕ) (rs : List Receipt) : Type 0 where
  pub each : All (IsReceipt base log s) rs
  pub rise : AllPairs IsEarlier rs
  pub reach : (front behind : List Entry) (ws : List Write) → log ≡ front ++ logged.Commit s ws ∷ behind → HasNumber rs (length front + 1)

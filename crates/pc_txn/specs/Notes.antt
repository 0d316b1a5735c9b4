-- A session's notes of its reads.
use Rattle.std.specs.Prelude.{◌||◌, ℕ, Bool, List, [], ◌∷◌, ◌++◌, Option, Some, None, if◌then◌else◌, slice_get}
use Rattle.pc_model.specs.Receipts.{Read, is_read}
use Rattle.pc_txn.specs.declared.got.Got.{Got}
use Rattle.pc_txn.specs.declared.got.Got.TheVariants as got
use Rattle.pc_txn.specs.declared.session_notes.Latest.{Latest}
use Rattle.pc_txn.specs.declared.session_notes.Latest.TheVariants as latest

-- the reads with one more, if it is not of an own write, and the key was not read before
abbrev pub noting : Bool → List Read → List ℕ → Option (List ℕ) → List Read
noting own reads key content = if own || is_read reads key then reads else reads ++ (key, content) ∷ []

-- the reads after such an answer, of a key that the transaction has written itself, or has not
abbrev pub reads_after : Got → Bool → List Read → List ℕ → List Read
reads_after (got.Found value) own reads key = noting own reads key (Some value)
reads_after got.Absent own reads key = noting own reads key None
reads_after got.Died own reads key = reads

-- the value that a read was answered with
abbrev pub got_value : Got → Option (List ℕ)
got_value (got.Found value) = Some value
got_value got.Absent = None
got_value got.Died = None

-- the content that was read
abbrev pub content_of : Option Read → Option (List ℕ)
content_of None = None
content_of (Some read) = read.1

-- what is kept of the latest call: nothing, the read that was noted at this place, or a value by itself
abbrev pub kept_in : Latest → List Read → Option (List ℕ)
kept_in latest.Nothing reads = None
kept_in (latest.Noted place) reads = content_of (slice_get reads place)
kept_in (latest.Loose value) reads = Some value

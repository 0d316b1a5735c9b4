-- A session's notes of its commits: a number and the reads of each. The reads of all of them are in one list.
use Rattle.std.specs.Prelude.{◌≡◌, ◌<◌, ◌≤◌, ℕ, zero, suc, List, [], ◌∷◌, map, Option, Some, None, slice_get, slice_range}
use Rattle.pc_types.specs.declared.Receipt.{Receipt}
use Rattle.pc_model.specs.Receipts.{Read}
use Rattle.pc_txn.specs.declared.commits.Head.{Head}

-- what is kept of a commit: the number of its entry in the log, and what its transaction has read
pub record CommitNote : Type 0 where
  pub number : ℕ
  pub reads : List Read

abbrev pub commit_note : ℕ → List Read → CommitNote
commit_note number reads = record { number = number; reads = reads }

-- what is kept of the commits that have these receipts
abbrev pub notes_of : List Receipt → List CommitNote
notes_of receipts = map (λ r. commit_note r.number r.reads) receipts

-- the reads of a note, and none if there is no note
abbrev pub reads_in : Option CommitNote → List Read
reads_in None = []
reads_in (Some note) = note.reads

-- the reads of the commit at the place
abbrev pub reads_at : List CommitNote → ℕ → List Read
reads_at notes place = reads_in (slice_get notes place)

-- notes of commits, and how many more there is room for: of commits, and of reads
pub record Noted : Type 0 where
  pub items : List CommitNote
  pub room : ℕ
  pub reads_room : ℕ

-- one more commit with that many reads takes no memory
pub record HasRoomFor (noted : Noted) (reads : ℕ) : Type 0 where
  pub one : 0 < noted.room
  pub for_reads : reads ≤ noted.reads_room

-- the notes, of which the first one's reads begin there
abbrev pub notes_from : ℕ → List Head → List Read → List CommitNote
notes_from r [] reads = []
notes_from r (h ∷ hs) reads = commit_note h.number (slice_range reads r h.reads_end) ∷ notes_from h.reads_end hs reads

-- none ends before it begins, and the last one ends here
abbrev pub EndAt : ℕ → List Head → ℕ → Type 0
EndAt r [] reads = r ≡ reads
EndAt r (h ∷ hs) reads = (r ≤ h.reads_end) × EndAt h.reads_end hs reads

-- where the reads of the commit at the place begin
abbrev pub begin_at : ℕ → List Head → ℕ → ℕ
begin_at r [] place = r
begin_at r (h ∷ hs) zero = r
begin_at r (h ∷ hs) (suc place) = begin_at h.reads_end hs place

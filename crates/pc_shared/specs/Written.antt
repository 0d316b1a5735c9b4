-- The text that has gone out to a writer, and the log entries that it is of.
use Rattle.std.specs.Prelude.{◌≡◌, ◌≤◌, ℕ, List, Option, Ok, length, take}
use mathlib.Core.List.{IsPrefix}
use Rattle.pc_io.specs.Tallies.{Puts}
use Rattle.pc_types.specs.declared.Entry.{Entry}
use Rattle.pc_io.specs.declared.tally.Tally.{Tally}
use Rattle.pc_model.specs.History.{History, log_of}
use Rattle.pc_model.specs.Replies.{Setting}
use Rattle.pc_latch.specs.Batches.{HasEntries}
use Rattle.pc_log.specs.Texts.{log_text}

-- since some earlier state of the writer all of the text has gone out, and nothing failed
abbrev pub HasGoneOut : {T : Type 0} → (T → Option (List ℕ)) → Tally T → List ℕ → Type 0
HasGoneOut {T} contents now text = (earlier : Tally T) × Puts contents earlier now (Ok tt) text

-- all text that has gone out to such a writer counts as gone out
abbrev pub CountsAsOut : {T : Type 0} → (T → Option (List ℕ)) → (List ℕ → Type 0) → Type 0
CountsAsOut {T} contents out = (now : Tally T) (text : List ℕ) → HasGoneOut contents now text → out text

-- a text has gone out that is that of a run's log, of which these are the first entries
pub record HasOut (out : List ℕ → Type 0) (run : ℕ) (first : List Entry) : Type 0 where
  pub entries : List Entry
  pub begins : IsPrefix first entries
  pub gone : out (log_text run entries)

-- so have the first `number` entries of the log of the history that is seen, if the number isn't 0
abbrev pub AreOut : (List ℕ → Type 0) → ℕ → History → ℕ → Type 0
AreOut out run seen number = 1 ≤ number → HasOut out run (take number (log_of seen))

-- the text of just `count` entries has, which are the first of the log of the history that is seen
pub record IsFirstOut (out : List ℕ → Type 0) (run : ℕ) (seen : History) (count : ℕ) : Type 0 where
  pub entries : List Entry
  pub as_many : length entries ≡ count
  pub first : IsPrefix entries (log_of seen)
  pub gone : out (log_text run entries)

-- a text of just `count` entries of a run's log has gone out
pub record HasText (out : List ℕ → Type 0) (run : ℕ) (count : ℕ) : Type 0 where
  pub entries : List Entry
  pub as_many : length entries ≡ count
  pub gone : out (log_text run entries)

-- This many entries are written: a log has as many after some legal history, and the text of just that many has gone out, if the
-- number isn't 0.
abbrev pub AreEntriesWritten : (List ℕ → Type 0) → Setting → ℕ → Type 0
AreEntriesWritten out st count = HasEntries st count × (1 ≤ count → HasText out st.run count)

-- as many are, or more
abbrev pub AreReached : (List ℕ → Type 0) → Setting → ℕ → Type 0
AreReached out st number = (written : ℕ) × (number ≤ written) × AreEntriesWritten out st written

-- The laws of reading a text, and of reading again a written one.
use Rattle.std.specs.Prelude.{◌≡◌, ℕ, ◌+◌, ◌-◌, ◌<◌, ◌≤◌, ◌^◌, ◌==◌, List, ◌++◌, length, take, Some, None, Ok, Err, All, slice_index, if◌then◌else◌}
use Rattle.std.specs.List.{flat_map}
use Rattle.pc_types.specs.declared.refusal.Refusal.TheVariants.{Short}
use Rattle.pc_types.specs.declared.Entry.{Entry}
use Rattle.pc_io.specs.declared.Format.{Format}
use Rattle.pc_types.specs.declared.limits.TheConstants.{MOST_SESSIONS}
use Rattle.pc_model.specs.History.{History, log_of}
use Rattle.pc_model.specs.Replies.{Setting}
use Rattle.pc_model.specs.Standing.{HasLegalEffects}
use Rattle.pc_model.specs.Limits.{AreInLimits}
use Rattle.pc_log.specs.Texts.{entry_text, log_text_in, IsEntry, HasLog, IsLogText}
use Rattle.pc_log.specs.Orders.{InOrder}
use Rattle.pc_log.specs.Reading.{LogRead, log_at}
use Rattle.pc_log.specs.Plain.{plain_entry_at, entries_in}

-- each number of the list is a byte
abbrev pub AreBytes : List ℕ → Type 0
AreBytes bytes = (i : ℕ) → slice_index bytes i < 256

-- the entries have texts, and their tokens keep their order
pub record IsLog (entries : List Entry) : Type 0 where
  pub lawful : All IsEntry entries
  pub in_order : InOrder entries

-- the bytes begin with a text of these entries, and that many are left after it
abbrev pub LeavesBehind : List ℕ → ℕ → List Entry → ℕ → Type 0
LeavesBehind bytes run entries rest = (format : Format) × HasLog format entries × (left : List ℕ) × (bytes ≡ log_text_in format run entries ++ left) × (length left ≡ rest)

-- the bytes begin with a text of these entries, of either format
abbrev pub BeginsWithText : List ℕ → ℕ → List Entry → Type 0
BeginsWithText bytes run entries = (rest : ℕ) × LeavesBehind bytes run entries rest

-- The whole entries of the bytes: a text of theirs and that many bytes more are the bytes, and any other log of which a text begins
-- the bytes is a prefix of theirs.
pub record AreWholeEntries (bytes : List ℕ) (run : ℕ) (entries : List Entry) (rest : ℕ) : Type 0 where
  pub run_fits : run < 2 ^ 64
  pub is_log : IsLog entries
  pub parts : LeavesBehind bytes run entries rest
  pub longest : (others : List Entry) → IsLog others → BeginsWithText bytes run others → others ≡ take (length others) entries

-- what is read of bytes are their whole entries
abbrev pub WholeEntriesAreLongest : Type 0
WholeEntriesAreLongest = (bytes : List ℕ) (read : LogRead) → AreBytes bytes → log_at bytes ≡ Ok read → AreWholeEntries bytes read.run read.entries read.rest

-- a log's text of either format is read as its entries, and nothing is left
abbrev pub LogTextsAreRead : Type 0
LogTextsAreRead =
    (bytes : List ℕ) (run : ℕ) (entries : List Entry) → run < 2 ^ 64 → All IsEntry entries → InOrder entries → IsLogText bytes run entries → log_at bytes ≡ Ok (record { run = run; entries = entries; rest = 0; fault = None })

-- Each entry's text is read as that entry, whatever token was before it, and the bytes after it are left; and the texts of entries
-- are read as these, in their order.
abbrev pub EntryTextsAreRead : Type 0
EntryTextsAreRead =
    ((entry : Entry) (rest : List ℕ) → IsEntry entry → plain_entry_at (entry_text entry ++ rest) ≡ Ok (entry, rest)) ×
    ((entries : List Entry) → All IsEntry entries → entries_in (flat_map entry_text entries) ≡ entries)

-- The log of a run has a text: its entries are within the limits of the format, and its tokens keep their order.
abbrev pub LogsOfRunsHaveTexts : Type 0
LogsOfRunsHaveTexts = (st : Setting) (history : History) → HasLegalEffects st history → st.sessions ≤ MOST_SESSIONS → AreInLimits history → IsLog (log_of history)

-- how many of the first c bytes of the text are after that of the first p entries
abbrev pub left_behind : Format → ℕ → List Entry → ℕ → ℕ → ℕ
left_behind format run entries c p = length (take c (log_text_in format run entries)) - length (log_text_in format run (take p entries))

-- the first p entries are those that are whole in the first c bytes of the text
pub record AreCut (format : Format) (run : ℕ) (entries : List Entry) (c p : ℕ) : Type 0 where
  pub some : p ≤ length entries
  pub there : length (log_text_in format run (take p entries)) ≤ c
  pub next : p < length entries → c < length (log_text_in format run (take (p + 1) entries))

-- what is read of the first c bytes, if the first p entries are whole in them
abbrev pub cut_read : Format → ℕ → List Entry → ℕ → ℕ → LogRead
cut_read format run entries c p =
    let left = left_behind format run entries c p in
    record { run = run; entries = take p entries; rest = left; fault = if left == 0 then None else Some Short }

-- A log's text of either format that is truncated within its header, which has 20 bytes, is short. Otherwise the entries are read
-- that are whole, and the rest is short, if there is one.
abbrev pub CutLogsAreRead : Type 0
CutLogsAreRead =
    (format : Format) (run : ℕ) (entries : List Entry) (c : ℕ) → run < 2 ^ 64 → All IsEntry entries → HasLog format entries → InOrder entries →
    (c < 20 → log_at (take c (log_text_in format run entries)) ≡ Err Short) ×
    (20 ≤ c → (p : ℕ) × AreCut format run entries c p × (log_at (take c (log_text_in format run entries)) ≡ Ok (cut_read format run entries c p)))

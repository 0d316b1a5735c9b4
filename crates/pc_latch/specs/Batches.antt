-- The entries that are handed out together.
use Rattle.std.specs.Prelude.{◌≡◌, ◌≤◌, ℕ, zero, suc, ◌-◌, List, [], ◌∷◌, ◌++◌, length}
use Rattle.std.specs.List.{flat_map}
use Rattle.pc_types.specs.declared.Entry.{Entry}
use Rattle.pc_model.specs.History.{History, log_of}
use Rattle.pc_model.specs.Replies.{Setting, IsLegalHistory}
use Rattle.pc_log.specs.Texts.{entry_text}

-- The first of the entries, until they have this many bytes of text, which the last one may exceed.
abbrev pub batch : ℕ → List Entry → List Entry
batch zero entries = []
batch (suc room) [] = []
batch (suc room) (entry ∷ entries) = entry ∷ batch (suc room - length (entry_text entry)) entries

-- after some legal history the log has this many entries, or more
abbrev pub HasEntries : Setting → ℕ → Type 0
HasEntries st number = (history : History) × IsLegalHistory st history × (number ≤ length (log_of history))

-- These are the texts of the next `count` entries, which the pass has then handed out after those that it had: a batch of the
-- entries with room for `room` bytes.
pub record IsNext (room : ℕ) (before after : List Entry) (text : List ℕ) (count : ℕ) : Type 0 where
  pub more : List Entry
  pub list : after ≡ before ++ more
  pub whole : batch room more ≡ more
  pub texts : text ≡ flat_map entry_text more
  pub counted : count ≡ length more

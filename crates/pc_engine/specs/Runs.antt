-- Runs of whole lists of events: what they start from, and what they leave.
use Rattle.std.specs.Prelude.{◌≡◌, ℕ, List, [], ◌∷◌, length}
use Rattle.pc_types.specs.declared.Event.{Event}
use Rattle.pc_types.specs.declared.Reply.{Reply}
use Rattle.pc_model.specs.History.{History}
use Rattle.pc_model.specs.Files.{BaseFile}
use Rattle.pc_model.specs.Replies.{Setting, IsLegalHistory}
use Rattle.pc_engine.specs.Store.{Store, setting_of}
use Rattle.pc_engine.specs.Stands.{Stands, IsSerial, KeepsPoints}

-- the start of a run with this base, this number of sessions and this capacity
abbrev pub starting : BaseFile → ℕ → ℕ → Setting
starting base sessions capacity = record { run = base.run; base = base.pairs; sessions = sessions; capacity = capacity }

-- the history that goes on by these events with these replies, in this order
abbrev pub history_after : History → List Event → List Reply → History
history_after history (event ∷ events) (reply ∷ replies) = history_after (record { event = event; reply = reply } ∷ history) events replies
history_after history events replies = history

-- A run of the events gave each its reply, and left this world: the whole history is legal, serial truth holds of it, and
-- so does what checkpoints promise.
pub record IsRun (st : Setting) (events : List Event) (replies : List Reply) (w : Store) : Type 0 where
  pub answered : length replies ≡ length events
  pub setting : setting_of w ≡ st
  pub legal : IsLegalHistory st (history_after [] events replies)
  pub stands : Stands w (history_after [] events replies)
  pub serial : IsSerial w (history_after [] events replies)
  pub points : KeepsPoints w (history_after [] events replies)

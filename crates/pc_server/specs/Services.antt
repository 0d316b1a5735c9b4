-- The output of a process that serves, and the part of it that comes back.
use Rattle.std.specs.Prelude.{◌≡◌, ◌≤◌, ◌+◌, ℕ, List, [], Option, take, length}
use Rattle.std.specs.List.{flat_map}
use Rattle.std.specs.Io.KnownBytes.{Appends}
use Rattle.pc_io.specs.Counted.{AppendsBeginning}
use Rattle.pc_io.specs.Tallies.{inner_of}
use Rattle.pc_types.specs.declared.Entry.{Entry}
use Rattle.pc_model.specs.History.{History, log_of}
use Rattle.pc_model.specs.Replies.{Setting}
use Rattle.pc_engine.specs.Stands.{Stands}
use Rattle.pc_engine.specs.Store.{Store, setting_of}
use Rattle.pc_log.specs.Texts.{entry_text}
use Rattle.pc_turn.specs.Devices.{Grows}
use Rattle.pc_server.specs.Acts.{Act, Lead, answers_of}
use Rattle.pc_server.specs.Turns.{Stays}
use Rattle.pc_server.specs.declared.service.Service.{Service}

-- the text of the first entries of a log
abbrev pub first_text : ℕ → List Entry → List ℕ
first_text count log = flat_map entry_text (take count log)

-- the text of all of them
abbrev pub entries_text : List Entry → List ℕ
entries_text log = flat_map entry_text log

-- known bytes have grown by this text at the front, and maybe by more
abbrev pub GrowsFrom : Option (List ℕ) → Option (List ℕ) → List ℕ → Type 0
GrowsFrom old new text = (between : Option (List ℕ)) × Appends old between text × Grows between new

-- Since the log's device had the one and the output the other text: the answers of the acts `gone` were sent, and no others; the first
-- entries of the log are written, among them all that it had when the last answers were sent; and the first of them are kept, of those
-- all but at most as many as the lag.
pub record Holds {T U : Type 0} (written keeps : T → Option (List ℕ)) (contents : U → Option (List ℕ)) (log out : Option (List ℕ)) (st : Setting) (gone : List Act) (at : History) (turn : List Act) (history : History)
    (service : Service T U) : Type 0 where
  pub stays : Stays st gone at turn history service.server
  pub sent : Appends out (contents (inner_of service.out)) (answers_of gone)
  pub logged : Appends log (written service.log) (first_text service.server.marks.written (log_of history))
  pub kept : GrowsFrom log (keeps service.log) (first_text service.server.marks.kept (log_of history))

-- The state wherever it ends, maybe in the middle of a text. It did the acts `gone`, of whose answers a prefix was sent, and nothing
-- else, and then those of the turn, and a store represents all of them. Of the log a prefix is written; and of the log as it was after
-- `gone` all is written, and at most as many entries as the lag are not kept.
pub record IsCutOff {T U : Type 0} (written keeps : T → Option (List ℕ)) (contents : U → Option (List ℕ)) (log out : Option (List ℕ)) (st : Setting) (lag : ℕ) (gone : List Act) (at : History) (turn : List Act) (history : History)
    (log_device : T) (out_device : U) : Type 0 where
  pub stands : (world : Store) × Stands world history × (setting_of world ≡ st)
  pub gone_by : Lead st [] gone at
  pub turn_by : Lead st at turn history
  pub sent : AppendsBeginning out (contents out_device) (answers_of gone)
  pub logged : AppendsBeginning log (written log_device) (entries_text (log_of history))
  pub all_written : GrowsFrom log (written log_device) (entries_text (log_of at))
  pub kept : (count : ℕ) × (length (log_of at) ≤ count + lag) × GrowsFrom log (keeps log_device) (first_text count (log_of at))

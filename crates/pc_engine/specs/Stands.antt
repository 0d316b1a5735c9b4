-- Which histories a world represents.
use Rattle.pc_model.specs.Changes.{AddsApply}
use Rattle.std.specs.Prelude.{◌≡◌, ℕ, ◌≤◌, true, false, Option, Some, None, List, ◌∷◌, length, if◌then◌else◌}
use Rattle.pc_types.specs.declared.Event.{Event}
use Rattle.pc_types.specs.declared.Reply.{Reply}
use Rattle.pc_types.specs.declared.Reply.TheVariants as told
use Rattle.pc_types.specs.declared.limits.TheConstants.{MOST_SESSIONS}
use Rattle.pc_model.specs.Maps as map_of
use Rattle.pc_model.specs.Database.{key_order}
use Rattle.pc_model.specs.Points.{taken}
use Rattle.pc_model.specs.Log.{after}
use Rattle.pc_model.specs.History.{History, log_of, begun, is_open, transaction_number_of, class_of, has_died, writes_of, phase_of, point_of}
use Rattle.pc_model.specs.Files.{File, shelf}
use Rattle.pc_model.specs.Replies.{Setting, IsLegal, IsLegalHistory, no_session, open_set, closed_set}
use Rattle.pc_model.specs.Headline.{is_taking, TakesEachKeyOnce, TakesPointValue, HasHeadline}
use Rattle.pc_model.specs.Reads.{HasRightReads}
use Rattle.pc_model.specs.Limits.{AreInLimits}
use Rattle.pc_records.specs.Rows.{record_of, stored}
use Rattle.pc_records.specs.Following.{AreRecords}
use Rattle.pc_engine.specs.Store.{Store, Cycle, setting_of, active}
use Rattle.pc_transactions.specs.Actives.{Active}

-- what was taken, in the order of keys; of each key the first
abbrev pub by_key : List (List ℕ × Option (List ℕ)) → List (List ℕ × Option (List ℕ))
by_key takes = (map_of.from_list {o = key_order} takes).entries

-- the cycle and the shelf are what the history says
pub record IsCycle (run : ℕ) (c : Cycle) (files : List File) (history : History) : Type 0 where
  pub phase : c.phase ≡ phase_of history
  pub point : c.point ≡ point_of history
  pub open_set : c.open_set ≡ open_set history
  pub closed_set : c.closed_set ≡ closed_set history
  pub taken : is_taking (phase_of history) ≡ true → c.taken ≡ by_key (taken history)
  pub shelved : files ≡ shelf run history

-- the session's last transaction, by the history
abbrev pub active_now : ℕ → History → Active
active_now s history = record { number = transaction_number_of s history; class = class_of s history; has_died = has_died s history; writes = writes_of s history }

-- the one that it has open, if any
abbrev pub active_after : ℕ → History → Option Active
active_after s history = if is_open s history then Some (active_now s history) else None

-- each part of the world is what is read off the history
pub record IsReadOff (w : Store) (history : History) : Type 0 where
  pub records : AreRecords w.base.pairs w.kept.rows history
  pub log : w.log ≡ log_of history
  pub begun : w.begun ≡ begun history
  pub sessions : (s : ℕ) → no_session (setting_of w) s ≡ false → active w s ≡ active_after s history
  pub cycle : IsCycle w.base.run w.cycle w.shelf history
  pub start : w.base.point ≡ 0

-- The world represents the history: it has at most 64 sessions; what was asked of it was within the limits of keys and
-- values; the history is legal, each Take has carried what its key has at the point, and each part of the world is read off
-- the history.
pub record Stands (w : Store) (history : History) : Type 0 where
  pub sessions : length w.sessions ≤ MOST_SESSIONS
  pub limits : AreInLimits history
  pub legal : IsLegalHistory (setting_of w) history
  pub values : TakesPointValue w.base.pairs history
  pub parts : IsReadOff w history

-- Serial truth: each key's committed value is that of the log replayed on the base, the reads and the sums of each committed
-- transaction are correct, and each add of the log applies to what was committed before it.
pub record IsSerial (w : Store) (history : History) : Type 0 where
  pub contents : (key : List ℕ) → stored (record_of w.kept.rows key) ≡ map_of.get (after w.base.pairs w.log) key
  pub reads : HasRightReads w.base.pairs history
  pub adds : AddsApply w.base.pairs w.log

-- The promise of checkpoints: each touched key is taken once, with what it has at the point, and the headline.
pub record KeepsPoints (w : Store) (history : History) : Type 0 where
  pub once : TakesEachKeyOnce history
  pub values : TakesPointValue w.base.pairs history
  pub headline : HasHeadline (setting_of w) history

-- Legal steps: the reply is legal, and the world then represents the history followed by the event with its reply; of all of
-- that serial truth holds, and so does what checkpoints promise.
pub record Follows (st : Setting) (history : History) (event : Event) (reply : Reply) (new : Store) : Type 0 where
  pub legal : IsLegal st history event reply
  pub stands : Stands new (record { event = event; reply = reply } ∷ history)
  pub serial : IsSerial new (record { event = event; reply = reply } ∷ history)
  pub points : KeepsPoints new (record { event = event; reply = reply } ∷ history)

-- a fact for refusals alone
abbrev pub IfRefused : Reply → Type 0 → Type 0
IfRefused (told.Refused why) Fact = Fact
IfRefused other Fact = Unit {0}

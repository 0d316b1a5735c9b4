-- The laws of every world that represents a history, whatever calls led there.
use Rattle.std.specs.Prelude.{ℕ, List}
use Rattle.pc_model.specs.History.{History}
use Rattle.pc_model.specs.Queues.{IsLegalQueue}
use Rattle.pc_records.specs.Rows.{record_of, requests_on}
use Rattle.pc_engine.specs.Store.{Store}
use Rattle.pc_engine.specs.Stands.{Stands, IsSerial, KeepsPoints}

-- Its committed contents are those of its log, the reads and the sums of committed transactions are correct, and each add of the
-- log applies to what was committed before it.
abbrev pub StandingWorldsAreSerial : Type 0
StandingWorldsAreSerial = (w : Store) (history : History) → Stands w history → IsSerial w history

-- Its points and files keep what checkpoints promise.
abbrev pub StandingWorldsKeepPoints : Type 0
StandingWorldsKeepPoints = (w : Store) (history : History) → Stands w history → KeepsPoints w history

-- No two granted requests of a key conflict.
abbrev pub StandingWorldsHaveLegalQueues : Type 0
StandingWorldsHaveLegalQueues = (w : Store) (history : History) (key : List ℕ) → Stands w history → IsLegalQueue (requests_on (record_of w.kept.rows key))

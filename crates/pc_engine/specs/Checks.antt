-- The check of a store: its contents and its files against its log.
use Rattle.std.specs.Prelude.{◌≡◌, ℕ, List, All}
use Rattle.pc_model.specs.Maps.{get}
use Rattle.pc_model.specs.Log.{after}
use Rattle.pc_audit.specs.Checks.{IsFileRight}
use Rattle.pc_records.specs.Rows.{record_of, stored}
use Rattle.pc_engine.specs.Store.{Store}

-- The store is what its log says: each key's committed value is that of the log replayed on the base, and each file of the
-- shelf whose points are those from 1 to some n, applied to the base, is the state of n.
pub record IsStoreSound (w : Store) : Type 0 where
  pub contents : (key : List ℕ) → stored (record_of w.kept.rows key) ≡ get (after w.base.pairs w.log) key
  pub files : All (IsFileRight w.base.pairs w.log) w.shelf

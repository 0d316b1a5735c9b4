-- The view of a world.
use Rattle.std.specs.Prelude.{ℕ, ◌==◌, List, length, Option, None, if◌then◌else◌}
use Rattle.pc_types.specs.declared.Entry.{Entry}
use Rattle.pc_types.specs.declared.Phase.{Phase}
use Rattle.pc_model.specs.Files.{BaseFile, File}
use Rattle.pc_model.specs.Replies.{Setting}
use Rattle.pc_records.specs.Rows.{Kept}
use Rattle.pc_transactions.specs.Actives.{Active, active_in}

-- The state of a checkpoint's cycle: its phase and point; the open set, the keys that commits wrote since the last resolve
-- token; the closed set, the keys of the point that are left to take; and what was taken of it, ascending by key.
pub record Cycle : Type 0 where
  pub phase : Phase
  pub point : ℕ
  pub open_set : List (List ℕ)
  pub closed_set : List (List ℕ)
  pub taken : List (List ℕ × Option (List ℕ))

-- the parts of a world; a session has its open transaction, if there is one
pub record Store : Type 0 where
  pub base : BaseFile
  pub sessions : List (Option Active)
  pub kept : Kept
  pub log : List Entry
  pub begun : ℕ
  pub cycle : Cycle
  pub shelf : List File

-- what the run started from
abbrev pub setting_of : Store → Setting
setting_of w = record { run = w.base.run; base = w.base.pairs; sessions = length w.sessions; capacity = w.kept.capacity }

-- the open transaction of the session
abbrev pub active : Store → ℕ → Option Active
active w s = active_in w.sessions s

-- the open transaction of whoever has this number; number 0 is no session's, and has none
abbrev pub active_of : Store → ℕ → Option Active
active_of w s = if s == 0 then None else active w s

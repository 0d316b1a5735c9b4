-- The open transactions of sessions.
use Rattle.std.specs.Prelude.{ℕ, ◌-◌, Bool, List, Option, None, slice_index_or}
use Rattle.pc_types.specs.declared.Class.{Class}
use Rattle.pc_types.specs.declared.Write.{Write}

-- an open transaction: its number, the class of the phase in which it began, whether a request of it has died, and the final
-- write of each key, in the order of first writes
pub record Active : Type 0 where
  pub number : ℕ
  pub class : Class
  pub has_died : Bool
  pub writes : List Write

-- the open transaction of the session; sessions are numbered from 1
abbrev pub active_in : List (Option Active) → ℕ → Option Active
active_in sessions s = slice_index_or sessions (s - 1) None

-- When the generation of a store that is served is full.
use Rattle.std.specs.Prelude.{ℕ, Bool, not, ◌||◌, ◌&&◌, ◌==◌, length, nat_lt}
use Rattle.pc_engine.specs.Store.{Store}
use Rattle.pc_serving.specs.OpenSessions.{open_now}

-- the log has at least this many entries, or 60,000 points were taken
abbrev pub has_many : ℕ → Store → Bool
has_many entries world = not (nat_lt (length world.log) entries) || not (nat_lt (length world.shelf) 60000)

-- and no session has a transaction open
abbrev pub is_filled : ℕ → Store → Bool
is_filled entries world = has_many entries world && (open_now world == 0)

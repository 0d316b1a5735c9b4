use Rattle.std.proofs.Common.{◌≡◌, ◌-◌, length, drop}
use Rattle.pc_model.specs.Maps.{from_list}
use Rattle.pc_model.specs.Database.{key_order}
use Rattle.pc_replay.proofs.rising.first_of_each.Given as goal

-- the first entries of the last ones so far
abbrev pub invariant-loop-i : goal.invariant-loop-i
invariant-loop-i l = from_list {o = key_order} l.first.entries ≡ from_list {o = key_order} (drop (length l.entries - l.i) l.entries)

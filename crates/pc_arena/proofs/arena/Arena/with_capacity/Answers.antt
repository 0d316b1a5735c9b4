use Rattle.std.proofs.Common.{rules}
use Rattle.pc_arena.proofs.CellKeeping.{kept_bare, bare_slots}
use Rattle.pc_arena.proofs.arena.Arena.with_capacity.Goals as goal

pub invariant_of-result : goal.invariant_of-result
invariant_of-result g c = (kept_bare _ _ _ c.in_ok-with_capacity.ensures.items c.new.ensures c.requires, (search rules))

pub returns-clause-free : goal.returns-clause-free
returns-clause-free g c = bare_slots c.args.slots _ c.in_ok-with_capacity.ensures.items

use Rattle.std.specs.List.{AllWithin}
use Rattle.pc_generations.specs.Searches.{IsNotMissed, IsFound}
use Rattle.pc_generations.proofs.beginning.latest_generation.Given as goal

-- of the generations that were looked at none above the one that was found has a base
abbrev pub invariant-loop-number : goal.invariant-loop-number
invariant-loop-number g l = record {
  found : IsFound (g.G.Generations.stands l.folders) l.found;
  covered : AllWithin (IsNotMissed (g.G.Generations.stands l.folders) l.found) l.number-items 0 l.number-index;
}

use Rattle.std.specs.List.{AllWithin}
use Rattle.pc_generations.specs.Folders.{HasNoLoggedEntries}
use Rattle.pc_generations.specs.Searches.{IsBeyond}
use Rattle.pc_generations.proofs.searching.lost_generation.Given as goal

-- of the generations that were looked at none above the one that counts has entries in its log
abbrev pub invariant-loop-number : goal.invariant-loop-number
invariant-loop-number g l = record {
  none : AllWithin (λ number. IsBeyond l.latest number → HasNoLoggedEntries (g.G.Generations.stands l.folders) number) l.number-items 0 l.number-index;
}

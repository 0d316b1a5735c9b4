use Rattle.std.specs.List.{AllWithin}
use Rattle.pc_generations.specs.Searches.{IsNotAbove}
use Rattle.pc_generations.proofs.searching.greatest_generation.Given as goal

-- none of the generations that were looked at is above the greatest one
abbrev pub invariant-loop-number : goal.invariant-loop-number
invariant-loop-number g l = record {
  covered : AllWithin (IsNotAbove l.greatest) l.number-items 0 l.number-index;
}

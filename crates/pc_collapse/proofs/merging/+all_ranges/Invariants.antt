use Rattle.std.specs.Prelude.{length}
use Rattle.pc_collapse.proofs.merging.+all_ranges.Given as goal

abbrev pub decreases-all_ranges : goal.decreases-all_ranges
decreases-all_ranges l = length l.parts.now

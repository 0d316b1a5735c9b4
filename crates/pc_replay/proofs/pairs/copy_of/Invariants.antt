use Rattle.std.proofs.Common.{◌≡◌, take}
use Rattle.pc_replay.proofs.pairs.copy_of.Given as goal

abbrev pub invariant-loop-pair : goal.invariant-loop-pair
invariant-loop-pair l = l.copied.items ≡ take l.pair-index l.pairs

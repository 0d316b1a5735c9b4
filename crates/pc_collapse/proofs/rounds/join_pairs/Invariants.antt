use Rattle.std.proofs.Common.{◌++◌, map}
use Rattle.std.specs.Vec.Iter.{into_iter_items}
use Rattle.pc_collapse.specs.Worth.{AreWorth}
use Rattle.pc_collapse.specs.Rounds.{neighbour_files, hand_files, together}
use Rattle.pc_collapse.proofs.rounds.join_pairs.Given as goal

abbrev pub invariant-loop-pair : goal.invariant-loop-pair
invariant-loop-pair g l = AreWorth (hand_files l.fn.hand) (l.joined.items ++ together (map neighbour_files (into_iter_items l.pair-iterator)))

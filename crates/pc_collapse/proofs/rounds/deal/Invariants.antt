use Rattle.std.proofs.Common.{◌≡◌, ◌<◌, ◌++◌, length}
use Rattle.std.specs.Prelude.{vec_len}
use Rattle.std.specs.Vec.Iter.{into_iter_items}
use Rattle.pc_collapse.specs.Worth.{AreWorth}
use Rattle.pc_collapse.specs.Rounds.{dealt_files}
use Rattle.pc_collapse.proofs.rounds.deal.Given as goal

abbrev pub invariant-loop-first : goal.invariant-loop-first
invariant-loop-first g l = (l.number < vec_len l.all) × (vec_len l.all ≡ l.workers) × AreWorth l.fn.pieces.items (dealt_files l.all.items ++ into_iter_items l.rest)

abbrev pub decreases-loop-first : goal.decreases-loop-first
decreases-loop-first g l = length (into_iter_items l.rest)

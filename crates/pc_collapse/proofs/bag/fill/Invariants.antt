use Rattle.std.proofs.Common.{◌≡◌}
use Rattle.std.specs.Vec.Iter.{into_iter_items}
use Rattle.crossbeam_queue.specs.Passes.{view, IsPassOf}
use Rattle.pc_collapse.specs.Bags.{hand, all_parts}
use Rattle.pc_collapse.proofs.bag.fill.Given as goal

abbrev pub invariant-loop-piece : goal.invariant-loop-piece
invariant-loop-piece g l = IsPassOf l.bag l.pass × (view l.pass ≡ hand all_parts (into_iter_items l.piece-iterator))

use Rattle.std.proofs.Common.{◌≡◌, ◌+◌, [], length}
use Rattle.std.specs.Prelude.{All, IfSome}
use Rattle.std.specs.Vec.Iter.{into_iter_items}
use Rattle.crossbeam_queue.specs.Passes.{view, IsPassOf}
use Rattle.pc_collapse.specs.Worth.{IsCauseFor}
use Rattle.std.specs.Option.{option_or}
use Rattle.pc_collapse.specs.Bags.{IsBagDone, all_parts, first_kept}
use Rattle.pc_collapse.proofs.bag.gather.Given as goal

abbrev pub invariant-loop-collapser : goal.invariant-loop-collapser
invariant-loop-collapser g l =
    IsPassOf l.bag l.pass × ((view l.pass).held ≡ []) × ((view l.pass).parts + length (into_iter_items l.collapser-iterator) ≡ all_parts) × All (IsBagDone g.G.Given.files l.bag) (into_iter_items l.collapser-iterator)
    × IfSome l.refused (IsCauseFor g.G.Given.files)
    × (option_or l.refused (first_kept (into_iter_items l.collapser-iterator)) ≡ first_kept l.fn.all.items)

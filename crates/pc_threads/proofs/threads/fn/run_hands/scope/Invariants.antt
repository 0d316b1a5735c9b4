use Rattle.std.proofs.Common.{◌≡◌, All}
use Rattle.pc_threads.proofs.threads.fn.run_hands.scope.Given as goal

-- the collapsers that were started have promised files of these points
abbrev pub invariant-loop-collapser : goal.invariant-loop-collapser
invariant-loop-collapser g l =
    (goal.iterator-loop-collapser g).can_next l.collapser-iterator
    × (goal.iterator-loop-collapser g).is_finite l.collapser-iterator
    × All (λ handle. handle.promise.0 ≡ l.points) l.handles.items

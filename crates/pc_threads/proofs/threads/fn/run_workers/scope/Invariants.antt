use Rattle.std.proofs.Common.{◌≡◌, ◌++◌, All, map}
use Rattle.pc_threads.proofs.threads.fn.run_workers.scope.Given as goal

-- the workers that were started have promised their clients, and whether there is a log
abbrev pub invariant-loop-worker : goal.invariant-loop-worker
invariant-loop-worker g l =
    (goal.iterator-loop-worker g).can_next l.worker-iterator
    × (goal.iterator-loop-worker g).is_finite l.worker-iterator
    × (map (λ handle. handle.promise.0.value) l.handles.items ++ l.worker-iterator.rest.items ≡ l.initial.worker-iterator.rest.items)
    × All (λ handle. handle.promise.1 ≡ l.has_log) l.handles.items

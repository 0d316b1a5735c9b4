use Rattle.std.proofs.Common.{◌≡◌, ℕ, All}
use Rattle.pc_workers.specs.Covering.{HaveOnlyTo}
use Rattle.pc_threads.proofs.threads.join_collapsers.Given as goal

-- the promises of all are also those of the handles that are left, and the tickets keep them
abbrev pub invariant-loop-handle : goal.invariant-loop-handle
invariant-loop-handle g l = (points : ℕ) → All (λ handle. handle.promise.0 ≡ points) l.fn.handles.items
    → All (λ handle. handle.promise.0 ≡ points) l.handle-iterator.rest.items × HaveOnlyTo points l.held.items

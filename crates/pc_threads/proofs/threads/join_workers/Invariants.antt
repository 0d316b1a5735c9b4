use Rattle.std.proofs.Common.{◌≡◌, ◌++◌, All, Bool, List, map}
use Rattle.pc_jobs.specs.declared.works.Client.{Client}
use Rattle.pc_threads.specs.Clients.{HaveWorked, clients_in}
use Rattle.pc_threads.proofs.threads.join_workers.Given as goal

-- the clients of the threads so far have run; the promises of all are also those of the handles that are left
abbrev pub invariant-loop-handle : goal.invariant-loop-handle
invariant-loop-handle g l = (clients : List Client) × (clients ++ clients_in (map (λ handle. handle.promise.0.value) l.handle-iterator.rest.items) ≡ clients_in (map (λ handle. handle.promise.0.value) l.fn.handles.items))
    × HaveWorked g.N.StoreName.name.setting clients l.all.given_up l.all.sessions.items
    × ((has_log : Bool) → All (λ handle. handle.promise.1 ≡ has_log) l.fn.handles.items → All (λ handle. handle.promise.1 ≡ has_log) l.handle-iterator.rest.items)

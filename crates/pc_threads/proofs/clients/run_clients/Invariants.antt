use Rattle.std.proofs.Common.{◌≡◌, ◌++◌, List, map}
use Rattle.pc_jobs.specs.declared.works.Client.{Client}
use Rattle.pc_threads.specs.Clients.{HaveWorked}
use Rattle.pc_threads.proofs.clients.run_clients.Given as goal

-- the clients so far have run
abbrev pub invariant-loop-seated : goal.invariant-loop-seated
invariant-loop-seated g l = (clients : List Client) × (clients ++ map (λ seated. seated.client) l.seated-iterator.rest.items ≡ map (λ seated. seated.client) l.fn.seats.items) × HaveWorked g.N.StoreName.name.setting clients l.given_up l.sessions.items

use Rattle.std.proofs.Common.{◌≡◌, ◌++◌, All, map}
use Rattle.pc_threads.specs.Clients.{AreSeated, HaveSeats, IsFresh}
use Rattle.pc_threads.proofs.clients.seat_worker.Given as goal

abbrev pub invariant-loop-client : goal.invariant-loop-client
invariant-loop-client g l =
    (map (λ seated. seated.client) l.seats.items ++ l.client-iterator.rest.items ≡ l.fn.clients) × All IsFresh l.sessions.items × HaveSeats l.sessions.items l.client-iterator.rest.items
    × AreSeated (map (λ seated. seated.client) l.seats.items) l.fn.sessions.items l.sessions.items

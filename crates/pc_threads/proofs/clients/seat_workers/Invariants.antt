use Rattle.std.proofs.Common.{◌≡◌, ◌++◌, All}
use Rattle.pc_threads.specs.Clients.{AreSeated, HaveSeats, IsFresh, clients_in}
use Rattle.pc_threads.proofs.clients.seat_workers.Given as goal

abbrev pub invariant-loop-clients : goal.invariant-loop-clients
invariant-loop-clients g l =
    (l.workers.items ++ l.clients-iterator.rest.items ≡ l.fn.dealt.items) × All IsFresh l.idle.items × HaveSeats l.idle.items (clients_in l.clients-iterator.rest.items)
    × AreSeated (clients_in l.workers.items) l.fn.sessions.items l.idle.items

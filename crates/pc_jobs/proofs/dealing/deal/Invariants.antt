use Rattle.std.proofs.Common.{◌≡◌, ◌<◌, ◌+◌, ◌^◌, length}
use Rattle.pc_jobs.proofs.Turns.{HasTheirs}
use Rattle.pc_jobs.proofs.dealing.deal.Given as goal

abbrev pub invariant-loop-client : goal.invariant-loop-client
invariant-loop-client l =
    (length l.all.items ≡ l.fn.workers)
    × (l.place + length l.client-iterator.rest.items < 2 ^ 64)
    × HasTheirs l.fn.workers l.fn.clients l.all.items l.place l.client-iterator.rest.items

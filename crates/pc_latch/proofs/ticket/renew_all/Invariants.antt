use Rattle.std.proofs.Common.{◌≡◌, ◌<◌, ℕ, get_or}
use Rattle.pc_model.specs.History.{History}
use Rattle.pc_model.specs.Calls.{IsBeginning}
use Rattle.pc_latch.specs.Tickets.{HaveGrown}
use Rattle.pc_latch.proofs.ticket.renew_all.Given as goal

abbrev pub invariant-loop-k : goal.invariant-loop-k
invariant-loop-k g l =
    (l.keeper ≡ l.fn.keeper) × HaveGrown l.fn.witnesses.items l.witnesses.items × ((j : ℕ) (d : History) → j < l.k → IsBeginning (get_or l.fn.witnesses.items j d) l.fn.keeper.history)

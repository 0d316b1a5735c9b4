use Rattle.std.proofs.Common.{◌≡◌, ◌<◌, ℕ, get_or}
use Rattle.pc_model.specs.Files.{File}
use Rattle.pc_model.specs.History.{log_of}
use Rattle.pc_model.specs.Replies.{IsLegalHistory}
use Rattle.pc_model.specs.Standing.{IsOfItsPoints}
use Rattle.pc_latch.proofs.ticket.renew_tickets.Given as goal

abbrev pub invariant-loop-k : goal.invariant-loop-k
invariant-loop-k g l =
    let st = g.N.StoreName.name.setting in
    (l.keeper ≡ l.fn.keeper) × (l.tickets.items ≡ l.fn.tickets.items)
    × (IsLegalHistory st l.fn.keeper.history → (j : ℕ) (d : File) → j < l.k → IsOfItsPoints st.run st.base (log_of l.fn.keeper.history) (get_or l.fn.tickets.items j d))

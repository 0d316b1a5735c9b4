use Rattle.pc_transactions.proofs.OngoingLaws.{taken_stands}
use Rattle.pc_transactions.proofs.sessions.Sessions.take.Goals as goal

pub invariant_of-self : goal.invariant_of-self
invariant_of-self c =
    let some = rw (← c.self.view_is) at c.requires.some in
    taken_stands _ _ _ _ c.self.invariant _ some.0 some.1 some.2 (c.take.ensures.taken some.0 some.1 some.2)

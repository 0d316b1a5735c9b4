use Rattle.pc_latch.proofs.Worths.{worth_same, worth_joined}
use Rattle.pc_latch.proofs.ticket.PartTicket.join.Goals as goal

pub invariant_of-first : goal.invariant_of-first
invariant_of-first g c = worth_same g.N.StoreName.name.setting c.first.inside.witnesses.items _ c.first.inside.part c.if-not-take_in.ensures.0 c.first.invariant

pub invariant_of-second : goal.invariant_of-second
invariant_of-second g c = worth_same g.N.StoreName.name.setting c.second.inside.witnesses.items _ c.second.inside.part c.if-not-take_in.ensures.1 c.second.invariant

pub invariant_of-result : goal.invariant_of-result
invariant_of-result g c =
    worth_joined g.N.StoreName.name.setting c.first.inside.witnesses.items c.second.inside.witnesses.items _ c.first.inside.part c.second.inside.part c.in-Ok.part c.if-not-take_in.ensures c.in-Ok.ensures.joined c.first.invariant c.second.invariant

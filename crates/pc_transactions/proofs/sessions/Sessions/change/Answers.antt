use Rattle.std.proofs.Common.{◌≡◌, rules}
use Rattle.pc_phase.specs.Phases.{advanced}
use Rattle.pc_transactions.proofs.OngoingLaws.{sealed_during, sealed_stands, changed_stands}
use Rattle.pc_transactions.proofs.sessions.Sessions.change.Goals as goal

pub close-requires-clause-during : goal.close-requires-clause-during
close-requires-clause-during c = sealed_during _ _ _ _ c.self.invariant (rw (c.in-Seal.is, ← c.self.view_is) at c.requires)

pub invariant_of-self : goal.invariant_of-self
invariant_of-self c =
    let moved : c.advance.new.self ≡ advanced c.self.inside.phases c.args.change = search rules in
    sealed_stands _ _ _ _ c.self.invariant _ _ (rw (c.in-Seal.is, ← c.self.view_is) at c.requires) (rw c.in-Seal.is at moved) (rw (c.point.ensures, moved, c.in-Seal.is) at c.close.ensures.closed)

pub invariant_of-self-in_default : goal.invariant_of-self-in_default
invariant_of-self-in_default c =
    let moved : c.advance.new.self ≡ advanced c.self.inside.phases c.args.change = search rules in
    changed_stands _ _ _ _ c.self.invariant c.args.change _ c.in_default.not-Seal (rw (← c.self.view_is) at c.requires) moved

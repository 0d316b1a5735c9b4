use Rattle.std.proofs.Common.{◌-◌, refl}
use Rattle.pc_transactions.proofs.Counted.{may_enter}
use Rattle.pc_transactions.proofs.SessionLemmas.{set_lane}
use Rattle.pc_transactions.proofs.OngoingLaws.{begun_stands}
use Rattle.pc_transactions.proofs.sessions.Sessions.begin.Goals as goal

pub enter-class-requires : goal.enter-class-requires
enter-class-requires c = may_enter c.self.inside.phases _ c.self.invariant.counted _ c.self.invariant.most_sessions

pub invariant_of-self : goal.invariant_of-self
invariant_of-self c =
    rw (set_lane c.self.inside.lanes.items c.args.session c.place.result c.begin.new.self _ c.place.ensures c.begin.ensures)
    (begun_stands _ _ _ _ c.self.invariant (c.args.session - 1) _ _ (rw (← c.self.view_is) at c.requires.place) (rw (← c.self.view_is) at c.requires.idle) (rw (← c.self.view_is) at c.requires.more) refl c.enter-class.ensures.class refl c.enter-class.ensures.entered)

pub returns-clause-begins : goal.returns-clause-begins
returns-clause-begins c =
    rw (set_lane c.self.inside.lanes.items c.args.session c.place.result c.begin.new.self _ c.place.ensures c.begin.ensures, ← c.self.view_is, c.enter-class.ensures.class, c.enter-class.ensures.entered) refl

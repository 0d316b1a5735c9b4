use Rattle.pc_records.proofs.SpotTidying.{table_left}
use Rattle.pc_records.proofs.records.Records.release.Goals as goal

pub release-requires : goal.release-requires
release-requires c = record { whole = c.self.invariant.0 }

pub invariant_of-self : goal.invariant_of-self
invariant_of-self c = (c.release.ensures.whole, (c.release.ensures.left c.self.inside.point c.self.invariant.1 (rw (← c.self.view_is) at c.requires)).sound)

pub returns : goal.returns
returns c = rw (← c.self.view_is) (table_left c.self.inside.point c.args.transaction c.self.inside.slots c.release.new.slots (c.release.ensures.left c.self.inside.point c.self.invariant.1 (rw (← c.self.view_is) at c.requires)) c.release.ensures.done)

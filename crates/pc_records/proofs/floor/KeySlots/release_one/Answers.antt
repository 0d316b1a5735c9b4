use Rattle.pc_locks.proofs.Turns.{release_queues}
use Rattle.pc_records.proofs.FloorLaws.{kept_released, none_released_there, released}
use Rattle.pc_records.proofs.Listing.{kept_listed}
use Rattle.pc_records.proofs.SpotSets.{whole_there}
use Rattle.pc_records.proofs.floor.KeySlots.release_one.Goals as goal

pub invariant_of-self : goal.invariant_of-self
invariant_of-self c =
    let i = c.self.inside in (
      kept_released c.args.transaction i.table c.release_one.new.keeper i.locks c.release_one.new.self i.sets c.self.invariant.0 c.self.invariant.1 c.self.invariant.2 c.release_one.ensures.beside c.release_one.result (release_queues _ _ c.args.transaction c.release_one.result c.release_one.ensures.released) c.release_one.ensures.none,
      c.release_one.ensures.sound.ends_are,
      kept_listed i.table.rows c.release_one.new.keeper.rows i.sets c.release_one.ensures.beside.sets c.self.invariant.2,
    )

pub returns-clause-gone : goal.returns-clause-gone
returns-clause-gone c =
    let i = c.self.inside in
    rw (← c.self.view_is) (released c.args.transaction i.table c.release_one.new.keeper i.locks c.release_one.new.self i.sets c.self.invariant.0 c.self.invariant.1 c.self.invariant.2 c.release_one.ensures.beside c.release_one.result c.release_one.ensures.given (release_queues _ _ c.args.transaction c.release_one.result c.release_one.ensures.released))

pub returns-clause-none : goal.returns-clause-none
returns-clause-none c =
    let i = c.self.inside in
    rw (← c.self.view_is) (none_released_there c.args.transaction i.table c.release_one.new.keeper i.locks c.release_one.new.self i.sets c.self.invariant.0 c.self.invariant.1 c.self.invariant.2 c.release_one.ensures.beside c.release_one.result c.release_one.ensures.given c.release_one.ensures.none)

pub returns-clause-whole : goal.returns-clause-whole
returns-clause-whole c = whole_there c.release_one.new.keeper c.release_one.new.self c.self.inside.sets (invariant_of-self c)

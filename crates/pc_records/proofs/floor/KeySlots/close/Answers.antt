use Rattle.pc_records.specs.SetLists.{open_slots}
use Rattle.pc_records.proofs.FloorLaws.{kept_turned, floor_closed}
use Rattle.pc_records.proofs.SidesTurned.{linked_closing, turned_listed}
use Rattle.pc_records.proofs.SpotSets.{whole_there}
use Rattle.pc_records.proofs.floor.KeySlots.close.Goals as goal

pub close-requires : goal.close-requires
close-requires c = (open_slots c.self.inside.table.rows c.self.inside.sets, linked_closing c.self.inside.table.rows c.self.inside.sets c.self.invariant.2 (rw (← c.self.view_is) at c.requires.none))

pub invariant_of-self : goal.invariant_of-self
invariant_of-self c =
    let none = rw (← c.self.view_is) at c.requires.none in
    let turned = c.close.ensures.sets (open_slots c.self.inside.table.rows c.self.inside.sets) (linked_closing c.self.inside.table.rows c.self.inside.sets c.self.invariant.2 none) in (
      kept_turned c.self.inside.table.rows c.self.inside.locks c.self.inside.sets c.close.new.self c.self.invariant.0 c.self.invariant.2 none c.close.ensures.side turned,
      c.self.invariant.1,
      turned_listed c.self.inside.table.rows c.self.inside.sets c.self.invariant.2 none c.close.new.self c.close.ensures.side turned,
    )

pub returns-clause-closed : goal.returns-clause-closed
returns-clause-closed c =
    let none = rw (← c.self.view_is) at c.requires.none in
    let turned = c.close.ensures.sets (open_slots c.self.inside.table.rows c.self.inside.sets) (linked_closing c.self.inside.table.rows c.self.inside.sets c.self.invariant.2 none) in
    rw (← c.self.view_is)
    (floor_closed c.self.inside.table.rows c.self.inside.locks c.self.inside.sets c.close.new.self c.self.invariant.0 c.self.invariant.2 none c.close.ensures.side turned c.self.inside.table.capacity)

pub returns-clause-whole : goal.returns-clause-whole
returns-clause-whole c = whole_there c.self.inside.table c.self.inside.locks c.close.new.self (invariant_of-self c)

use Rattle.pc_records.specs.SetLists.{open_slots, closed_slots}
use Rattle.pc_records.proofs.FloorTaking.{kept_taken, ends_taken, listed_taken, floor_taken, kept_none, listed_none, closed_none, floor_none}
use Rattle.pc_records.proofs.Leaving.{first_row}
use Rattle.pc_records.proofs.SpotSets.{whole_there}
use Rattle.pc_records.proofs.floor.KeySlots.take_first.Goals as goal

pub mark_taken-requires : goal.mark_taken-requires
mark_taken-requires c =
    let i = c.self.inside in
    first_row i.table i.sets c.self.invariant.2 c.in-Some.id (c.in-Some.ensures.given (open_slots i.table.rows i.sets) (closed_slots i.table.rows i.sets) c.self.invariant.2.linked)

pub invariant_of-self : goal.invariant_of-self
invariant_of-self c =
    let i = c.self.inside in
    let first = c.in-Some.ensures.given (open_slots i.table.rows i.sets) (closed_slots i.table.rows i.sets) c.self.invariant.2.linked in
    let popped = c.pop_closed.ensures.sets (open_slots i.table.rows i.sets) (closed_slots i.table.rows i.sets) c.self.invariant.2.linked in (
      kept_taken i.table i.locks i.sets c.pop_closed.new.self c.self.invariant.0 c.self.invariant.2 c.pop_closed.ensures.side popped c.in-Some.id first c.mark_taken.new.table c.open_side-side.result c.open_side-side.ensures c.mark_taken.ensures.marks c.mark_taken.ensures.slots c.mark_taken.ensures.ends,
      ends_taken i.table i.locks i.sets c.pop_closed.new.self c.self.invariant.0 c.self.invariant.2 c.pop_closed.ensures.side popped c.in-Some.id first c.mark_taken.new.table c.open_side-side.result c.open_side-side.ensures c.mark_taken.ensures.marks c.mark_taken.ensures.slots c.mark_taken.ensures.ends c.self.invariant.1,
      listed_taken i.table i.locks i.sets c.pop_closed.new.self c.self.invariant.0 c.self.invariant.2 c.pop_closed.ensures.side popped c.in-Some.id first c.mark_taken.new.table c.open_side-side.result c.open_side-side.ensures c.mark_taken.ensures.marks c.mark_taken.ensures.slots c.mark_taken.ensures.ends,
    )

pub invariant_of-self-in-None : goal.invariant_of-self-in-None
invariant_of-self-in-None c =
    let i = c.self.inside in
    let none = c.in-None.ensures.given (open_slots i.table.rows i.sets) (closed_slots i.table.rows i.sets) c.self.invariant.2.linked in
    let popped = c.pop_closed.ensures.sets (open_slots i.table.rows i.sets) (closed_slots i.table.rows i.sets) c.self.invariant.2.linked in (
      kept_none i.table i.locks i.sets c.pop_closed.new.self c.self.invariant.0 c.self.invariant.2 c.pop_closed.ensures.side popped none,
      c.self.invariant.1,
      listed_none i.table i.locks i.sets c.pop_closed.new.self c.self.invariant.0 c.self.invariant.2 c.pop_closed.ensures.side popped none,
    )

pub returns-in-Some-clause-taken : goal.returns-in-Some-clause-taken
returns-in-Some-clause-taken c =
    let i = c.self.inside in
    let first = c.in-Some.ensures.given (open_slots i.table.rows i.sets) (closed_slots i.table.rows i.sets) c.self.invariant.2.linked in
    let popped = c.pop_closed.ensures.sets (open_slots i.table.rows i.sets) (closed_slots i.table.rows i.sets) c.self.invariant.2.linked in
    rw (← c.self.view_is)
    (floor_taken i.table i.locks i.sets c.pop_closed.new.self c.self.invariant.0 c.self.invariant.2 c.pop_closed.ensures.side popped c.in-Some.id first c.mark_taken.new.table c.open_side-side.result c.open_side-side.ensures c.mark_taken.ensures.marks c.mark_taken.ensures.slots c.mark_taken.ensures.ends
    c.mark_taken.ensures.before c.mark_taken.ensures.capacity)

pub returns-in-None-clause-none : goal.returns-in-None-clause-none
returns-in-None-clause-none c =
    let i = c.self.inside in
    let none = c.in-None.ensures.given (open_slots i.table.rows i.sets) (closed_slots i.table.rows i.sets) c.self.invariant.2.linked in
    let popped = c.pop_closed.ensures.sets (open_slots i.table.rows i.sets) (closed_slots i.table.rows i.sets) c.self.invariant.2.linked in
    rw (← c.self.view_is) (closed_none i.table i.locks i.sets c.pop_closed.new.self c.self.invariant.0 c.self.invariant.2 c.pop_closed.ensures.side popped none, floor_none i.table i.locks i.sets c.pop_closed.new.self c.self.invariant.0 c.self.invariant.2 c.pop_closed.ensures.side popped none)

pub returns-in-Some-clause-whole : goal.returns-in-Some-clause-whole
returns-in-Some-clause-whole c = whole_there c.mark_taken.new.table c.self.inside.locks c.pop_closed.new.self (invariant_of-self c)

pub returns-in-None-clause-whole : goal.returns-in-None-clause-whole
returns-in-None-clause-whole c = whole_there c.self.inside.table c.self.inside.locks c.pop_closed.new.self (invariant_of-self-in-None c)

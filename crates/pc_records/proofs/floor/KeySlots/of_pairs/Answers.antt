use Rattle.pc_records.specs.Ends.{ends_in, queues_in}
use Rattle.pc_records.proofs.EndsKept.{ends_first}
use Rattle.pc_records.proofs.FirstSlots.{kept_first}
use Rattle.pc_records.proofs.FloorMaking.{first_spots}
use Rattle.pc_records.proofs.SidesTurned.{first_listed, first_open, first_shut}
use Rattle.pc_records.proofs.SpotSets.{whole_there}
use Rattle.pc_records.proofs.floor.KeySlots.of_pairs.Goals as goal

pub invariant_of-result : goal.invariant_of-result
invariant_of-result c =
    let empty = ends_first c.in_ok-table.table.rows c.args.pairs.now c.in_ok-table.ensures.cells in
    let queues = queues_in c.in_ok-table.table.rows c.new-locks.result in (
      kept_first c.new-sets.result.side c.in_ok-table.table queues c.in_ok-table.ensures.slots (c.new-locks.ensures.queues (ends_in c.in_ok-table.table.rows) empty),
      c.new-locks.ensures.ends (ends_in c.in_ok-table.table.rows) empty,
      first_listed c.args.pairs.now c.in_ok-table.table.rows c.in_ok-table.ensures.cells c.new-sets.result c.new-sets.ensures,
    )

pub returns-clause-first : goal.returns-clause-first
returns-clause-first c =
    let empty = ends_first c.in_ok-table.table.rows c.args.pairs.now c.in_ok-table.ensures.cells in
    record {
      size = c.in_ok-table.ensures.capacity;
      spots = first_spots c.new-sets.result.side (queues_in c.in_ok-table.table.rows c.new-locks.result) (c.new-locks.ensures.queues (ends_in c.in_ok-table.table.rows) empty) c.in_ok-table.table.rows c.args.pairs.now c.in_ok-table.ensures.cells;
      opened = first_open c.args.pairs.now c.in_ok-table.table.rows c.in_ok-table.ensures.cells c.new-sets.result c.new-sets.ensures;
      closed = first_shut c.args.pairs.now c.in_ok-table.table.rows c.in_ok-table.ensures.cells c.new-sets.result c.new-sets.ensures;
    }

pub returns-clause-whole : goal.returns-clause-whole
returns-clause-whole c = whole_there c.in_ok-table.table c.new-locks.result c.new-sets.result (invariant_of-result c)

use Rattle.std.proofs.Common.{ap, ◌∙◌}
use Rattle.pc_table.specs.Rows.{Contents}
use Rattle.pc_slots.specs.declared.cells.Cell.{Cell}
use Rattle.pc_records.proofs.FirstSlots.{pair_new, pairs_next}
use Rattle.pc_records.proofs.slots.table_of.Goals as goal

pub add-requires : goal.add-requires
add-requires c = pair_new c.args.pairs.now c.requires.rise c.loop-pair.pair-index c.pair-item.result c.loop-pair-test.true c.pair-item.is c.loop-pair.table c.loop-pair.invariant.cells

pub loop-pair-preserved : goal.loop-pair-preserved
loop-pair-preserved c = record {
  capacity = ap (λ (t : Contents Cell). t.capacity) c.in_ok-add.ensures.1 ∙ c.loop-pair.invariant.capacity;
  cells = pairs_next c.args.pairs.now c.requires.rise c.loop-pair.pair-index c.pair-item.result c.loop-pair-test.true c.pair-item.is c.loop-pair.table c.loop-pair.invariant.cells c.add.new.table c.in_ok-add.ensures.0 c.in_ok-add.ensures.1;
}

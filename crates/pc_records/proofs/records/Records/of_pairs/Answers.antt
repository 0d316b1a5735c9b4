use Rattle.pc_records.proofs.SpotSets.{rows_first, writes_first, sound_first}
use Rattle.pc_records.proofs.records.Records.of_pairs.Goals as goal

pub invariant_of-result : goal.invariant_of-result
invariant_of-result c = (c.in_ok-slots.ensures.whole, sound_first c.args.pairs.now c.in_ok-slots.slots.spots c.in_ok-slots.ensures.first.spots)

pub returns : goal.returns
returns c =
    let first = c.in_ok-slots.ensures.first in
    λ i. record {
      capacity = first.size i;
      rows = rows_first c.args.pairs.now c.in_ok-slots.slots.spots first.spots i;
      pending = writes_first c.args.pairs.now c.in_ok-slots.slots.spots first.spots i;
      point = 0;
      opened = first.opened i;
      shut = first.closed i;
    }

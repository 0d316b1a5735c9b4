use Rattle.std.proofs.Common.{◌∙◌, ◌++◌, ap}
use Rattle.pc_records.specs.Floor.{Floor, newly_opened_keys}
use Rattle.pc_slots.specs.Slots.{settled}
use Rattle.pc_records.proofs.Moments.{settled_key, settled_writer, settled_again}
use Rattle.pc_records.proofs.SpotWrites.{writes_next, writes_done, opened_next, opened_done}
use Rattle.pc_records.proofs.records.settle_all.Goals as goal

pub loop-write-preserved : goal.loop-write-preserved
loop-write-preserved c =
    let p = c.args.point in
    let new = c.settle_key.ensures.settled in
    record {
      whole = c.settle_key.ensures.whole;
      capacity = ap (λ (f : Floor). f.capacity) new ∙ c.loop-write.invariant.capacity;
      closed = ap (λ (f : Floor). f.closed) new ∙ c.loop-write.invariant.closed;
      opened =
          opened_next p c.args.writes.now c.loop-write.write-index c.write-item.result c.loop-write.slots.spots c.settle_key.new.slots.spots c.loop-write.slots.opened c.settle_key.new.slots.opened (c.args.slots.now.opened ++ newly_opened_keys c.args.slots.now.spots c.args.writes.now)
          c.loop-write-test.true c.write-item.is c.requires.distinct (ap (λ (f : Floor). f.spots) new) (ap (λ (f : Floor). f.opened) new) c.loop-write.invariant.opened;
      rest =
          writes_next (settled p) (settled_key p) (settled_writer p) (settled_again p) c.args.writes.now c.loop-write.write-index c.write-item.result c.args.slots.now.spots c.loop-write.slots.spots c.settle_key.new.slots.spots
          c.loop-write-test.true c.write-item.is (ap (λ (f : Floor). f.spots) new) c.loop-write.invariant.rest;
    }

pub returns-clause-settled : goal.returns-clause-settled
returns-clause-settled c =
    let p = c.args.point in
    let spots = writes_done (settled p) (settled_key p) (settled_writer p) (settled_again p) c.args.writes.now c.loop-write.write-index c.args.slots.now.spots c.loop-write.slots.spots c.loop-write-test.false c.loop-write.invariant.rest in
    let opened = opened_done p c.args.writes.now c.loop-write.write-index c.loop-write.slots.spots c.loop-write.slots.opened (c.args.slots.now.opened ++ newly_opened_keys c.args.slots.now.spots c.args.writes.now) c.loop-write-test.false c.loop-write.invariant.opened in
    λ i. record { capacity = c.loop-write.invariant.capacity i; spots = spots i; opened = opened i; closed = c.loop-write.invariant.closed i }

use Rattle.std.proofs.Common.{◌∙◌, ap}
use Rattle.pc_records.specs.Floor.{Floor}
use Rattle.pc_slots.specs.Slots.{undone}
use Rattle.pc_records.proofs.Moments.{undone_key, undone_writer, undone_again}
use Rattle.pc_records.proofs.SpotWrites.{writes_next, writes_done}
use Rattle.pc_records.proofs.records.undo_all.Goals as goal

pub loop-write-preserved : goal.loop-write-preserved
loop-write-preserved c =
    let p = c.args.point in
    let new = c.undo_key.ensures.undone in
    record {
      whole = c.undo_key.ensures.whole;
      capacity = ap (λ (f : Floor). f.capacity) new ∙ c.loop-write.invariant.capacity;
      opened = ap (λ (f : Floor). f.opened) new ∙ c.loop-write.invariant.opened;
      closed = ap (λ (f : Floor). f.closed) new ∙ c.loop-write.invariant.closed;
      rest =
          writes_next (undone p) (undone_key p) (undone_writer p) (undone_again p) c.args.writes.now c.loop-write.write-index c.write-item.result c.args.slots.now.spots c.loop-write.slots.spots c.undo_key.new.slots.spots
          c.loop-write-test.true c.write-item.is (ap (λ (f : Floor). f.spots) new) c.loop-write.invariant.rest;
    }

pub returns-clause-undone : goal.returns-clause-undone
returns-clause-undone c =
    let p = c.args.point in
    let spots = writes_done (undone p) (undone_key p) (undone_writer p) (undone_again p) c.args.writes.now c.loop-write.write-index c.args.slots.now.spots c.loop-write.slots.spots c.loop-write-test.false c.loop-write.invariant.rest in
    λ i. record { capacity = c.loop-write.invariant.capacity i; spots = spots i; opened = c.loop-write.invariant.opened i; closed = c.loop-write.invariant.closed i }

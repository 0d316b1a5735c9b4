use Rattle.std.proofs.Common.{refl}
use Rattle.pc_records.proofs.SpotTidying.{left_then, over_then, left_none}
use Rattle.pc_records.proofs.records.release.Goals as goal

pub loop-transaction-init : goal.loop-transaction-init
loop-transaction-init c = record { whole = c.requires.whole; left = λ point sound over. left_none point c.args.transaction c.args.slots.now c.args.slots.now refl sound }

pub loop-transaction-preserved : goal.loop-transaction-preserved
loop-transaction-preserved c = record {
  whole = c.release_next.ensures.whole;
  left = λ point sound over.
      let so_far = c.loop-transaction.invariant.left point sound over in
      left_then point c.args.transaction c.args.slots.now c.loop-transaction.slots c.release_next.new.slots so_far
      (c.release_next.ensures.left point so_far.sound (over_then point c.args.transaction c.args.slots.now c.loop-transaction.slots over so_far));
}

pub returns-clause-left : goal.returns-clause-left
returns-clause-left c = λ point sound over.
    let so_far = c.loop-transaction.invariant.left point sound over in
    left_then point c.args.transaction c.args.slots.now c.loop-transaction.slots c.release_next.new.slots so_far
    (c.release_next.ensures.left point so_far.sound (over_then point c.args.transaction c.args.slots.now c.loop-transaction.slots over so_far))

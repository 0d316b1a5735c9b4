use Rattle.std.proofs.Common.{ap, ◌∙◌}
use Rattle.pc_model.specs.Receipts.{Read, is_read}
use Rattle.pc_txn.specs.Sets.{Roomy}
use Rattle.pc_txn.proofs.Noting.{tells_read}
use Rattle.pc_txn.proofs.reads.ReadSet.has.Goals as goal

pub returns : goal.returns
returns c =
    c.is_ok.ensures.value ∙ tells_read c.self.inside.reads.items c.self.inside.order.items c.args.key.now c.position.result c.self.invariant (rw (c.as_slice.ensures.value, c.as_slice-2.ensures.value) at c.position.ensures.at) (rw (c.as_slice.ensures.value, c.as_slice-2.ensures.value) at c.position.ensures.gap)
    ∙ ap (λ (v : Roomy Read). is_read v.items c.args.key.now) c.self.view_is

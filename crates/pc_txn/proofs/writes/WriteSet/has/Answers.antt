use Rattle.std.proofs.Common.{ap, ◌∙◌, is_some}
use Rattle.pc_types.specs.declared.Write.{Write}
use Rattle.pc_model.specs.Database.{written}
use Rattle.pc_txn.specs.Sets.{Roomy}
use Rattle.pc_txn.proofs.Noting.{tells_written}
use Rattle.pc_txn.proofs.writes.WriteSet.has.Goals as goal

pub returns : goal.returns
returns c =
    c.is_ok.ensures.value ∙ tells_written c.self.inside.writes.items c.self.inside.order.items c.args.key.now c.position.result c.self.invariant.0 (rw (c.as_slice.ensures.value, c.as_slice-2.ensures.value) at c.position.ensures.at) (rw (c.as_slice.ensures.value, c.as_slice-2.ensures.value) at c.position.ensures.gap)
    ∙ ap (λ (v : Roomy Write). is_some (written v.items c.args.key.now)) c.self.view_is

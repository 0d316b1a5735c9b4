use Rattle.std.proofs.Common.{◌∙◌, ap, sym}
use Rattle.std.specs.Int.{w64}
use Rattle.std.proofs.lemmas.Int.{to_z-of_z}
use Rattle.pc_types.specs.declared.Write.{Write}
use Rattle.pc_types.specs.Changes.{can_add}
use Rattle.pc_model.specs.Database.{written}
use Rattle.pc_txn.specs.Sets.{Roomy}
use Rattle.pc_txn.proofs.Noting.{found_change, no_change}
use Rattle.pc_txn.proofs.writes.WriteSet.can_add.Goals as goal

pub returns-in-Ok : goal.returns-in-Ok
returns-in-Ok c =
    c.can_add_at.ensures ∙ ap (can_add _) (to_z-of_z w64 c.args.delta c.ranges.delta)
    ∙ ap (λ o. can_add o c.args.delta) (rw (c.as_slice-in-Ok.ensures.value, c.as_slice-in-Ok-2.ensures.value) (sym (found_change c.self.inside.writes.items c.self.inside.order.items c.args.key.now c.in-Ok.at c.self.invariant.0 (rw (c.as_slice.ensures.value, c.as_slice-2.ensures.value) at c.in-Ok.ensures.at))))
    ∙ ap (λ (v : Roomy Write). can_add (written v.items c.args.key.now) c.args.delta) c.self.view_is

pub returns-in-Err : goal.returns-in-Err
returns-in-Err c =
    sym (ap (λ o. can_add o c.args.delta) (no_change c.self.inside.writes.items c.self.inside.order.items c.args.key.now c.in-Err.field-0 c.self.invariant.0 (rw (c.as_slice.ensures.value, c.as_slice-2.ensures.value) at c.in-Err.ensures.gap)))
    ∙ ap (λ (v : Roomy Write). can_add (written v.items c.args.key.now) c.args.delta) c.self.view_is

use Rattle.std.proofs.Common.{ap, sym, subst, arith, ◌∙◌}
use Rattle.pc_types.specs.declared.Write.{Write}
use Rattle.pc_types.specs.Changes.{CanMerge}
use Rattle.pc_model.specs.Database.{with_write, written}
use Rattle.pc_model.specs.DistinctWrites.{AreDistinct}
use Rattle.pc_model.proofs.DistinctWriteLaws.{distinct_with}
use Rattle.pc_txn.specs.Sets.{Roomy}
use Rattle.pc_txn.proofs.Noting.{found_change, noted_again, order_again, noted_first, order_first}
use Rattle.pc_txn.proofs.writes.WriteSet.note.Goals as goal

pub invariant_of-self : goal.invariant_of-self
invariant_of-self c =
    let noted = noted_again c.self.inside.writes.items c.merge_at.new.writes.items c.self.inside.order.items c.args.write c.in-Ok.at c.self.invariant.0 (rw (c.as_slice.ensures.value, c.as_slice-2.ensures.value) at c.in-Ok.ensures.at)
    (rw c.as_slice-in-Ok.ensures.value at c.merge_at.ensures) in (
      order_again c.self.inside.writes.items c.merge_at.new.writes.items c.self.inside.order.items c.args.write c.in-Ok.at c.self.invariant.0 (rw (c.as_slice.ensures.value, c.as_slice-2.ensures.value) at c.in-Ok.ensures.at)
          (rw c.as_slice-in-Ok.ensures.value at c.merge_at.ensures),
      subst AreDistinct (sym noted) (distinct_with c.self.inside.writes.items c.args.write c.self.invariant.1),
    )

pub returns-in-Ok : goal.returns-in-Ok
returns-in-Ok c =
    noted_again c.self.inside.writes.items c.merge_at.new.writes.items c.self.inside.order.items c.args.write c.in-Ok.at c.self.invariant.0 (rw (c.as_slice.ensures.value, c.as_slice-2.ensures.value) at c.in-Ok.ensures.at)
    (rw c.as_slice-in-Ok.ensures.value at c.merge_at.ensures) ∙ ap (λ (v : Roomy Write). with_write v.items c.args.write) c.self.view_is

pub invariant_of-self-in-Err : goal.invariant_of-self-in-Err
invariant_of-self-in-Err c =
    let noted = noted_first c.self.inside.writes.items c.push_reserved.new.self.items c.self.inside.order.items c.add.new.order.items c.args.write c.in-Err.at c.len.result c.self.invariant.0 (rw (c.as_slice.ensures.value, c.as_slice-2.ensures.value) at c.in-Err.ensures.gap)
    (omega (arith, c.len.ensures, c.self.inside.writes.ok.0)) c.add.ensures c.push_reserved.ensures.items in (
      order_first c.self.inside.writes.items c.push_reserved.new.self.items c.self.inside.order.items c.add.new.order.items c.args.write c.in-Err.at c.len.result c.self.invariant.0 (rw (c.as_slice.ensures.value, c.as_slice-2.ensures.value) at c.in-Err.ensures.gap)
          (omega (arith, c.len.ensures, c.self.inside.writes.ok.0)) c.add.ensures c.push_reserved.ensures.items,
      subst AreDistinct (sym noted) (distinct_with c.self.inside.writes.items c.args.write c.self.invariant.1),
    )

pub returns-in-Err : goal.returns-in-Err
returns-in-Err c =
    noted_first c.self.inside.writes.items c.push_reserved.new.self.items c.self.inside.order.items c.add.new.order.items c.args.write c.in-Err.at c.len.result c.self.invariant.0 (rw (c.as_slice.ensures.value, c.as_slice-2.ensures.value) at c.in-Err.ensures.gap)
    (omega (arith, c.len.ensures, c.self.inside.writes.ok.0)) c.add.ensures c.push_reserved.ensures.items ∙ ap (λ (v : Roomy Write). with_write v.items c.args.write) c.self.view_is

pub merge_at-requires-clause-merges : goal.merge_at-requires-clause-merges
merge_at-requires-clause-merges c =
    let found = found_change c.self.inside.writes.items c.self.inside.order.items c.args.write.key c.in-Ok.at c.self.invariant.0 (rw (c.as_slice.ensures.value, c.as_slice-2.ensures.value) at c.in-Ok.ensures.at) in
    rw (c.as_slice-in-Ok.ensures.value) (subst (λ o. CanMerge o c.args.write.change) (sym (ap (λ (v : Roomy Write). written v.items c.args.write.key) c.self.view_is) ∙ found) c.requires.merges)

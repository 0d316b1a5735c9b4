use Rattle.std.proofs.Common.{false, ap, sym, arith, ◌∙◌}
use Rattle.pc_model.specs.Receipts.{Read}
use Rattle.pc_txn.specs.Notes.{noting}
use Rattle.pc_txn.specs.Sets.{Roomy}
use Rattle.pc_txn.proofs.Noting.{read_again, read_first, reads_first, read_there}
use Rattle.pc_txn.proofs.reads.ReadSet.note.Goals as goal

pub invariant_of-self : goal.invariant_of-self
invariant_of-self c =
    reads_first c.self.inside.reads.items c.push_reserved.new.self.items c.self.inside.order.items c.add.new.order.items c.args.key c.args.content c.in-Err.at c.len-place.result c.self.invariant (rw (c.as_slice.ensures.value, c.as_slice-2.ensures.value) at c.in-Err.ensures.gap)
    (omega (arith, c.len-place.ensures, c.self.inside.reads.ok.0)) c.add.ensures c.push_reserved.ensures.items

pub returns-in-Ok-clause-reads : goal.returns-in-Ok-clause-reads
returns-in-Ok-clause-reads c =
    sym (ap (λ (v : Roomy Read). v.items) c.self.view_is) ∙ read_again c.args.own c.self.inside.reads.items c.self.inside.order.items c.args.key c.args.content c.in-Ok.field-0 c.self.invariant (rw (c.as_slice.ensures.value, c.as_slice-2.ensures.value) at c.in-Ok.ensures.at)
    ∙ ap (λ (v : Roomy Read). noting c.args.own v.items c.args.key c.args.content) c.self.view_is

pub returns-in-Err-clause-reads : goal.returns-in-Err-clause-reads
returns-in-Err-clause-reads c =
    read_first c.self.inside.reads.items c.push_reserved.new.self.items c.self.inside.order.items c.add.new.order.items c.args.key c.args.content c.in-Err.at c.len-place.result c.self.invariant (rw (c.as_slice.ensures.value, c.as_slice-2.ensures.value) at c.in-Err.ensures.gap)
    (omega (arith, c.len-place.ensures, c.self.inside.reads.ok.0)) c.add.ensures c.push_reserved.ensures.items
    ∙ (ap (λ (v : Roomy Read). noting false v.items c.args.key c.args.content) c.self.view_is ∙ ap (λ b. noting b c.args.self.now.items c.args.key c.args.content) (sym c.if-own.false))

pub returns-in-Err-clause-noted : goal.returns-in-Err-clause-noted
returns-in-Err-clause-noted c =
    read_there c.self.inside.reads.items c.push_reserved.new.self.items c.self.inside.order.items c.add.new.order.items c.args.key c.args.content c.in-Err.at c.len-place.result c.self.invariant (rw (c.as_slice.ensures.value, c.as_slice-2.ensures.value) at c.in-Err.ensures.gap)
    (omega (arith, c.len-place.ensures, c.self.inside.reads.ok.0)) c.add.ensures c.push_reserved.ensures.items

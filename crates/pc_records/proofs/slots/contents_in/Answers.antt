use Rattle.pc_dirty.specs.declared.side.Side.TheVariants.{First}
use Rattle.std.proofs.Common.{◌≤◌, subst, ap, ◌∙◌}
use Rattle.std.specs.FinMap.{find}
use Rattle.pc_model.specs.Database.{key_cmp}
use Rattle.pc_records.proofs.CommittedPairs.{contents_none, contents_step, contents_all}
use Rattle.pc_records.proofs.slots.contents_in.Goals as goal

pub loop-id-init : goal.loop-id-init
loop-id-init c = λ q. ap (find key_cmp q) c.new-contents.ensures.items ∙ contents_none First c.args.table.now c.capacity-id-end.ensures.slots q

pub loop-id-preserved : goal.loop-id-preserved
loop-id-preserved c = contents_step First c.args.table.now c.capacity-id-end.ensures.slots c.loop-id.id c.loop-id.contents.items c.push_content.new.contents.items c.in_ok-push_content.ensures c.loop-id.invariant

pub returns-clause-contents : goal.returns-clause-contents
returns-clause-contents c =
    contents_all First c.args.table.now c.capacity-id-end.ensures.slots (λ v. v.items) c.loop-id.id c.loop-id.contents.items c.first_of_each.result (subst (λ n. n ≤ c.loop-id.id) c.capacity-id-end.ensures.count c.loop-id-test.false) c.loop-id.invariant (rw c.deref.ensures.value at c.first_of_each.ensures)

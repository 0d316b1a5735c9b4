use Rattle.std.proofs.Common.{◌∙◌}
use Rattle.pc_collapse.proofs.MergedParts.{merged_by, covered_by}
use Rattle.pc_collapse.proofs.merging.merged_entries.Goals as goal

pub returns-clause-merged : goal.returns-clause-merged
returns-clause-merged c = merged_by (λ all. all.items) c.args.parts.now c.deref_mut.result.now c.merge_all.new.inputs (c.deref_mut.ensures.value ∙ c.in_ok-inputs.ensures.all) c.merge_all.result c.merge_all.ensures.known c.merge_all.ensures.stand

pub returns-clause-covered : goal.returns-clause-covered
returns-clause-covered c = covered_by (λ all. all.items) c.args.parts.now c.deref_mut.result.now c.merge_all.new.inputs (c.deref_mut.ensures.value ∙ c.in_ok-inputs.ensures.all) c.merge_all.result c.merge_all.ensures.within c.in_ok-inputs.ensures.covered

use Rattle.pc_collapse.proofs.MergedParts.{parts_merged}
use Rattle.pc_collapse.proofs.merging.merge_parts.Goals as goal

pub returns : goal.returns
returns c = parts_merged c.args.parts.now c.index-parts-0.result c.run.result _ c.in_ok-entries.entries.items c.from_lists.result c.requires.one c.index-parts-0.is c.run.ensures c.in_ok-ranges.ensures.points c.in_ok-entries.ensures.merged c.from_lists.ensures

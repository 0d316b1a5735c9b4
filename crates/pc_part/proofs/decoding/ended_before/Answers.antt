use Rattle.std.proofs.Common.{ltb, ltb-true, ltb-false, rules}
use Rattle.std.proofs.lemmas.List.Sorted.{IsPartitionPoint-from_clause, IsPartitionedBy-ltb}
use Rattle.pc_part.specs.declared.ranges.Range.{Range}
use Rattle.pc_part.proofs.CoveringRanges.{ends_rise}
use Rattle.pc_part.proofs.decoding.ended_before.Goals as goal

pub returns-clause-ends : goal.returns-clause-ends
returns-clause-ends c =
    let parted = IsPartitionedBy-ltb (λ (r : Range). r.high) c.args.ranges.now c.args.point (ends_rise 1 c.args.ranges.now c.requires) in
    let point = IsPartitionPoint-from_clause (λ (r : Range). ltb r.high c.args.point) c.args.ranges.now c.partition_point.result c.partition_point.ensures.partitioned parted (λ a r q k. search rules) in
    (λ k d low h. ltb-true _ _ (point.0 k d low h), λ k d low h. ltb-false _ _ (point.1 k d low h))

use Rattle.std.proofs.Common.{◌∙◌, ap}
use Rattle.std.specs.Ordering.{is_le}
use Rattle.pc_merge.proofs.OrderLaws.{by_keys, by_numbers}
use Rattle.pc_merge.proofs.tree.is_no_later.Goals as goal

pub returns-then-head-other_head : goal.returns-then-head-other_head
returns-then-head-other_head c =
    by_numbers c.args.first.now c.args.other.now c.args.head c.args.other_head c.requires.head c.requires.other_head c.ranges.head.fits c.ranges.other_head.fits c.if-head-other_head.true

pub returns-in-Some-Some : goal.returns-in-Some-Some
returns-in-Some-Some c =
    let one = c.in-Some-Some.one in let other = c.in-Some-Some.other in
    rw (c.in-Some-Some.is-0, c.in-Some-Some.is-1) (by_keys one.key other.key c.is_le.result (c.is_le.ensures ∙ ap is_le c.compare.ensures))

use Rattle.std.proofs.Common.{◌≡◌, ap, ◌∙◌}
use Rattle.pc_model.specs.Sets as set
use Rattle.pc_part.specs.Parts.{points_of}
use Rattle.pc_part.proofs.RangeUnions.{covered_left, covered_right}
use Rattle.pc_part.proofs.joining.join.Goals as goal

pub from_lists-requires-clause-covered : goal.from_lists-requires-clause-covered
from_lists-requires-clause-covered c =
    let points = points_of c.in_ok-ranges.ranges.items in
    let union : points ≡ set.union c.args.a.now.points c.args.b.now.points = c.in_ok-ranges.ensures.union ∙ ap (λ s. set.union s (points_of c.ranges-3.result.now)) c.ranges-2.ensures.points ∙ ap (set.union c.args.a.now.points) c.ranges-3.ensures.points in
    c.in_ok-entries.ensures.covered points (covered_left c.args.a.now.points c.args.b.now.points points c.kept.result.now union c.kept.ensures.covered) (covered_right c.args.a.now.points c.args.b.now.points points c.kept-2.result.now union c.kept-2.ensures.covered)

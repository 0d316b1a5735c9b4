use Rattle.std.proofs.Common.{◌∙◌, sym, ap}
use Rattle.pc_model.specs.Sets as set
use Rattle.pc_model.specs.Sets.{Set, number_order}
use Rattle.pc_part.proofs.RangePointLaws.{contains-points_of}
use Rattle.pc_workers.proofs.covering.covers.Goals as goal

pub returns : goal.returns
returns c = c.is_in_some.ensures ∙ sym (contains-points_of c.ranges-own.result.now c.args.point) ∙ ap (λ (s : Set number_order). set.contains s c.args.point) c.ranges-own.ensures.points

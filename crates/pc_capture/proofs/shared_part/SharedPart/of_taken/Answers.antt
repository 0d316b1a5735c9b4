use Rattle.std.proofs.Common.{◌∙◌}
use Rattle.pc_model.specs.Maps as map_of
use Rattle.pc_capture.proofs.OnePoints.{has_point}
use Rattle.pc_capture.proofs.shared_part.SharedPart.of_taken.Goals as goal

pub take_over-requires-clause-covered : goal.take_over-requires-clause-covered
take_over-requires-clause-covered c = has_point c.in-Some.part.now c.args.run c.args.point map_of.empty (c.in-Some.ensures.value ∙ c.shared.view_is ∙ c.in_ok-shared.ensures.part ∙ c.in_ok-part.ensures)

use Rattle.std.proofs.Common.{sym, ap, ◌∙◌}
use Rattle.pc_model.specs.LaidFiles.{greatest}
use Rattle.pc_bases.proofs.GapLaws.{last_is_greatest}
use Rattle.pc_recover.proofs.reach.greatest_point.Goals as goal

pub returns-in-Some : goal.returns-in-Some
returns-in-Some c = last_is_greatest c.ranges-2.result.now c.in-Some.range.now c.ranges-2.ensures.apart.1 (sym c.in-Some.ensures.value) ∙ ap greatest c.ranges-2.ensures.points

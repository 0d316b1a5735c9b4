use Rattle.std.proofs.Common.{sym}
use Rattle.pc_bases.proofs.GapLaws.{last_is_greatest}
use Rattle.pc_bases.proofs.laying.last_point.Goals as goal

pub returns-in-Some : goal.returns-in-Some
returns-in-Some c = last_is_greatest c.args.ranges.now c.in-Some.range.now c.requires.1 (sym c.in-Some.ensures.value)

use Rattle.std.proofs.Common.{sym, ◌∙◌, arith}
use Rattle.pc_part.proofs.ReadLists.{covered_fits}
use Rattle.pc_part.proofs.decoding.read_point.Goals as goal

pub overflow_cast-result : goal.overflow_cast-result
overflow_cast-result c = let fits = covered_fits 1 c.args.ranges.now c.in_ok-point.point c.requires (sym c.is_covered.ensures ∙ c.if-not-is_covered.false) in omega (arith, fits)

use Rattle.std.proofs.Common.{sym}
use Rattle.pc_part.proofs.RangePointLaws.{items-points_of}
use Rattle.pc_collapse_files.proofs.inputs.join_headers.Goals as goal

pub returns-clause-points : goal.returns-clause-points
returns-clause-points g c = rw (c.from_vec.ensures, c.in_ok-points.ensures, c.deref.ensures.value) (sym (items-points_of c.in_ok-header.header.ranges.items c.in_ok-header.ensures.headed.of_all.apart))

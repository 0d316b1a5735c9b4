use Rattle.std.proofs.Common.{refl}
use Rattle.pc_part.proofs.TakenTriples.{taken_rise, taken_covered, taken_triples, one_point}
use Rattle.pc_part.proofs.part.Part.of_point.Goals as goal

pub from_lists-requires-clause-rise : goal.from_lists-requires-clause-rise
from_lists-requires-clause-rise c = taken_rise c.args.point c.args.entries.items c.in_ok-entries.entries.items c.in_ok-entries.ensures c.requires.rise

pub from_lists-requires-clause-covered : goal.from_lists-requires-clause-covered
from_lists-requires-clause-covered c = taken_covered c.args.point c.args.entries.items c.in_ok-entries.entries.items c.in_ok-ranges.ranges.items c.in_ok-entries.ensures c.in_ok-ranges.ensures.items

pub returns-clause-part : goal.returns-clause-part
returns-clause-part c = rw (c.from_lists.ensures, one_point c.args.point c.in_ok-ranges.ranges.items c.in_ok-ranges.ensures.items, taken_triples c.args.point c.args.entries.items c.in_ok-entries.entries.items c.in_ok-entries.ensures) refl

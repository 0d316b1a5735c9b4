use Rattle.std.proofs.Common.{refl}
use Rattle.pc_pairs.proofs.dumping.run_dump.Goals as goal

pub returns-in-Some-clause-dumped : goal.returns-in-Some-clause-dumped
returns-in-Some-clause-dumped g c = rw c.in-Some.is c.dump_point.ensures.dumped

pub returns-in-None-dump_recovered-clause-dumped : goal.returns-in-None-dump_recovered-clause-dumped
returns-in-None-dump_recovered-clause-dumped g c = λ e. rw c.in-None.is (c.in-None-dump_recovered.ensures.dumped refl)

use Rattle.pc_restore.proofs.bases.put_unused.Goals as goal

pub returns-in-Some : goal.returns-in-Some
returns-in-Some g c = rw c.in-Some.is c.put_count.ensures

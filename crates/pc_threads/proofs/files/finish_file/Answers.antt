use Rattle.std.proofs.Common.{refl}
use Rattle.pc_threads.proofs.files.finish_file.Goals as goal

pub returns-in-Err-clause-lost : goal.returns-in-Err-clause-lost
returns-in-Err-clause-lost g c = (refl, c.in-Err.ensures.refused)

use Rattle.std.proofs.Common.{refl}
use Rattle.pc_engine.proofs.Causes.{owed_refusal}
use Rattle.pc_engine.proofs.world.World.join_files.Goals as goal

pub returns-in-Err : goal.returns-in-Err
returns-in-Err c = rw (← c.self.view_is) (owed_refusal _ c.in-Err.why _ _ _ (rw c.deref.ensures.value at c.in-Err.ensures) refl)

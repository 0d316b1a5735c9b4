use Rattle.std.proofs.Common.{ℕ, List, subst}
use Rattle.std.specs.Prelude.{IfOk}
use Rattle.pc_recover.specs.Recovery.{IsOfRun}
use Rattle.pc_restore.proofs.recovery.recover_files.Goals as goal

pub returns-clause-run : goal.returns-clause-run
returns-clause-run c = subst (λ (bytes : List ℕ). IfOk c.recover.result (λ recovered. IsOfRun bytes recovered.run)) c.deref-2.ensures.value c.recover.ensures.run

use Rattle.std.proofs.Common.{ℕ, List, IfOk, subst}
use Rattle.pc_recover.specs.Recovery.{IsOfRun}
use Rattle.pc_border.proofs.sources.Sources.recover.Goals as goal

pub returns-clause-run : goal.returns-clause-run
returns-clause-run c = subst (λ (bytes : List ℕ). IfOk c.recover.result (λ recovered. IsOfRun bytes recovered.run)) c.bytes_of.ensures c.recover.ensures.run

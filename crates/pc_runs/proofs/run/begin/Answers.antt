use Rattle.std.proofs.Common.{refl}
use Rattle.std.proofs.lemmas.Result.{err_from_is_err_and}
use Rattle.pc_runs.proofs.run.begin.Goals as goal

pub returns-in_err-log-in-Some-clause-lost : goal.returns-in_err-log-in-Some-clause-lost
returns-in_err-log-in-Some-clause-lost g c =
    let p = err_from_is_err_and c.from_residual.result c.from_residual.ensures.1 in
    rw (p.1, p.2, c.in-Some.is) (refl, c.in_err-log-in-Some.ensures.lost)

use Rattle.std.proofs.Common.{List, subst}
use Rattle.std.specs.List.{flat_map}
use Rattle.std.specs.Prelude.{is_some}
use Rattle.std.proofs.lemmas.Result.{err_from_is_err_and}
use Rattle.pc_jobs.specs.declared.works.ClientTask.{ClientTask}
use Rattle.pc_shared.specs.Sitters.{Sitter}
use Rattle.pc_threads.specs.Clients.{AreDone, HasDone, ClientHasStopped, jobs_in, jobs_of}
use Rattle.pc_threads.proofs.clients.Seated.run.Goals as goal

pub returns-clause-worked : goal.returns-clause-worked
returns-clause-worked g c =
    let st = g.N.StoreName.name.setting in
    let own = c.args.self in
    subst (λ (s : Sitter). HasDone (AreDone st own.client.works) (jobs_of own.client) c.in_ok-given_up.given_up s c.run_works.new.session) own.fresh
    (subst (λ (works : List ClientTask). HasDone (AreDone st works) (flat_map jobs_in works) c.in_ok-given_up.given_up own.session c.run_works.new.session) c.as_slice.ensures c.in_ok-given_up.ensures.done)

pub returns-in_err-given_up-clause-stopped : goal.returns-in_err-given_up-clause-stopped
returns-in_err-given_up-clause-stopped g c =
    let p = err_from_is_err_and c.from_residual.result c.from_residual.ensures.1 in
    rw (p.1, p.2) (subst (λ (works : List ClientTask). ClientHasStopped (is_some c.args.room.now.lag) (flat_map jobs_in works) c.in_err-given_up.field-0.0) c.as_slice.ensures c.in_err-given_up.ensures.stopped)

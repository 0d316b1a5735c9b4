use Rattle.std.proofs.Common.{◌≡◌, ◌+◌, List, take, refl, sym, subst, arith}
use Rattle.std.specs.List.{flat_map}
use Rattle.std.specs.Prelude.{is_some}
use Rattle.std.proofs.lemmas.Result.{err_from_is_err_and}
use Rattle.std.proofs.lemmas.List.{take_all}
use Rattle.pc_jobs.specs.declared.works.ClientTask.{ClientTask}
use Rattle.pc_threads.specs.Clients.{AreDone, HasDone, jobs_in}
use Rattle.pc_threads.proofs.ClientLaws.{work_next}
use Rattle.pc_threads.proofs.DoneLaws.{nothing_done}
use Rattle.pc_threads.proofs.StopLaws.{at_most, work_stops, works_count}
use Rattle.pc_threads.proofs.clients.run_works.Goals as goal

pub loop-work-init : goal.loop-work-init
loop-work-init g c = nothing_done (AreDone g.N.StoreName.name.setting (take 0 c.args.works.now)) c.args.session.now (refl, refl)

pub loop-work-preserved : goal.loop-work-preserved
loop-work-preserved g c =
    let st = g.N.StoreName.name.setting in
    let old = c.loop-work in
    let works : List ClientTask = take (old.work-index + 1) c.args.works.now in
    subst (λ n. HasDone (AreDone st works) (flat_map jobs_in works) n c.args.session.now c.run_work.new.session) (sym c.in_ok-given_up.ensures.sum)
    (work_next st c.args.works.now old.work-index c.work-item.result old.given_up c.in_ok-more.more c.args.session.now old.session c.run_work.new.session c.loop-work-test.true c.work-item.is old.invariant
    c.in_ok-more.ensures.done)

pub returns-clause-done : goal.returns-clause-done
returns-clause-done g c =
    let old = c.loop-work in
    let whole : take old.work-index c.args.works.now ≡ c.args.works.now = take_all old.work-index c.args.works.now (omega (arith, c.loop-work-test.false)) in
    subst (λ (works : List ClientTask). HasDone (AreDone g.N.StoreName.name.setting works) (flat_map jobs_in works) old.given_up c.args.session.now old.session) whole old.invariant

pub returns-in_err-more-clause-stopped : goal.returns-in_err-more-clause-stopped
returns-in_err-more-clause-stopped g c =
    let p = err_from_is_err_and c.from_residual.result c.from_residual.ensures.1 in
    rw (p.1, p.2)
    (work_stops (is_some c.args.room.now.lag) c.args.works.now c.loop-work.work-index c.work-item.result c.loop-work-test.true c.work-item.is c.in_err-more.field-0.0 c.in_err-more.ensures.stopped)

pub returns-in_err-given_up-clause-stopped : goal.returns-in_err-given_up-clause-stopped
returns-in_err-given_up-clause-stopped g c =
    let old = c.loop-work in
    let p = err_from_is_err_and c.from_residual-in_err-given_up.result c.from_residual-in_err-given_up.ensures.1 in
    rw (p.1, p.2)
    (works_count (is_some c.args.room.now.lag) c.args.works.now old.work-index c.work-item.result c.loop-work-test.true c.work-item.is old.given_up c.in_ok-more.more c.in_err-given_up.field-0.0
    (at_most _ _ _ _ _ old.invariant) (at_most _ _ _ _ _ c.in_ok-more.ensures.done) c.in_err-given_up.ensures.full)

use Rattle.std.specs.Prelude.{is_some}
use Rattle.std.proofs.lemmas.Result.{err_from_is_err_and}
use Rattle.std.proofs.Common.{◌≡◌, ℕ, ◌+◌, [], List, refl, sym, subst, arith}
use Rattle.pc_jobs.specs.declared.works.Job.{Job}
use Rattle.pc_threads.specs.Clients.{AreFillsTried, HasDone, first_jobs}
use Rattle.pc_threads.proofs.ClientLaws.{fill_next}
use Rattle.pc_threads.proofs.DoneLaws.{nothing_done}
use Rattle.pc_threads.proofs.StopLaws.{at_most, fill_counts, fill_stops}
use Rattle.pc_threads.proofs.clients.run_fill.Goals as goal

pub loop-number-init : goal.loop-number-init
loop-number-init g c = nothing_done (AreFillsTried g.N.StoreName.name.setting []) c.args.session.now refl

pub loop-number-preserved : goal.loop-number-preserved
loop-number-preserved g c =
    let st = g.N.StoreName.name.setting in
    let old = c.loop-number in
    let jobs : List Job = first_jobs c.args.fill.now (old.number + 1) in
    subst (λ n. HasDone (AreFillsTried st jobs) jobs n c.args.session.now c.run_made.new.session) (sym c.in_ok-given_up.ensures.sum)
    (fill_next st c.args.fill.now old.number old.given_up c.in_ok-more.more c.args.session.now old.session c.run_made.new.session old.invariant c.in_ok-more.ensures.done)

pub returns-clause-done : goal.returns-clause-done
returns-clause-done g c =
    let old = c.loop-number in
    let fill = c.args.fill.now in
    let whole : old.number ≡ fill.count = omega (arith, c.loop-number-test.false, old.auto.number-end) in
    subst (λ (n : ℕ). HasDone (AreFillsTried g.N.StoreName.name.setting (first_jobs fill n)) (first_jobs fill n) old.given_up c.args.session.now old.session) whole old.invariant

pub returns-in_err-more-clause-stopped : goal.returns-in_err-more-clause-stopped
returns-in_err-more-clause-stopped g c =
    let p = err_from_is_err_and c.from_residual.result c.from_residual.ensures.1 in
    rw (p.1, p.2) (fill_stops (is_some c.args.room.now.lag) c.args.fill.now c.loop-number.number c.loop-number-test.true c.in_err-more.field-0.0 c.in_err-more.ensures.stopped)

pub returns-in_err-given_up-clause-stopped : goal.returns-in_err-given_up-clause-stopped
returns-in_err-given_up-clause-stopped g c =
    let old = c.loop-number in
    let p = err_from_is_err_and c.from_residual-in_err-given_up.result c.from_residual-in_err-given_up.ensures.1 in
    rw (p.1, p.2)
    (fill_counts (is_some c.args.room.now.lag) c.args.fill.now old.number c.loop-number-test.true old.given_up c.in_ok-more.more c.in_err-given_up.field-0.0
    (at_most _ _ _ _ _ old.invariant) (at_most _ _ _ _ _ c.in_ok-more.ensures.done) c.in_err-given_up.ensures.full)

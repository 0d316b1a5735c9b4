use Rattle.std.proofs.Common.{Bool, refl, subst, sym, ◌∙◌}
use Rattle.std.specs.Prelude.{is_some}
use Rattle.std.proofs.lemmas.Result.{err_from_is_err_and}
use Rattle.pc_types.specs.declared.limits.TheConstants.{MOST_SESSIONS}
use Rattle.pc_jobs.specs.declared.workloads.WorkloadReading.TheVariants.{Runs}
use Rattle.pc_threads.specs.Files.{RefusedBy}
use Rattle.pc_runs.specs.Faults.{EndsRun}
use Rattle.pc_runs.specs.Runs.{RunBegins, CanRun, IsWorkloadRun, maker_of, run_setting}
use Rattle.pc_runs.proofs.BeginLaws.{not_started, read_as, run_failed}
use Rattle.pc_runs.proofs.SeatingLaws.{new_seats, read_range}
use Rattle.pc_runs.proofs.run.answer.Goals as goal

pub run_read-requires-clause-seats : goal.run_read-requires-clause-seats
run_read-requires-clause-seats g c κs within =
    new_seats MOST_SESSIONS c.in-Runs.workload.clients (c.in-Ok.ensures.written c.in-Runs.workload c.in-Runs.is).0
    (read_range c.deref.result.now c.in-Runs.workload (sym c.in-Ok.ensures.reading ∙ c.in-Runs.is))

pub returns-in_err-base-in-Runs-clause-cause : goal.returns-in_err-base-in-Runs-clause-cause
returns-in_err-base-in-Runs-clause-cause g c =
    let p = err_from_is_err_and c.from_residual-in_err-base-in-Runs.result c.from_residual-in_err-base-in-Runs.ensures.1 in
    let text = c.in_ok-text.text.items in
    let can : CanRun g.R.Read.remaining c.args.opened = (c.in_ok-text.ensures.opened, (c.in-Runs.workload, read_as g.R.Read.remaining c.args.opened text c.deref.result.now c.in-Ok.reading (Runs c.in-Runs.workload) c.in_ok-text.ensures.script c.deref.ensures.value c.in-Ok.ensures.reading c.in-Runs.is)) in
    let cause = c.in_err-base-in-Runs.ensures.cause in
    rw (p.1, p.2)
    (not_started (RefusedBy g.D.NewFiles.refuses (maker_of c.args.folder)) g.R.Read.remaining c.args.folder (RunBegins g.S.Read.remaining g.E.Write.contents c.args.origin c.args.errors.now c.base_of.new.errors) g.S.Read.remaining g.E.Write.contents c.args.opened
    c.args.origin.start c.args.errors.now c.base_of.new.errors c.in_err-base-in-Runs.field-0.0 can c.in_ok-folder-in-Runs.ensures.usable cause cause)

pub returns-in_err-outcome-in-Runs-clause-cause : goal.returns-in_err-outcome-in-Runs-clause-cause
returns-in_err-outcome-in-Runs-clause-cause g c =
    let p = err_from_is_err_and c.from_residual-in_err-outcome-in-Runs.result c.from_residual-in_err-outcome-in-Runs.ensures.1 in
    let text = c.in_ok-text.text.items in
    let why = c.in_err-outcome-in-Runs.field-0.0 in
    let read = read_as g.R.Read.remaining c.args.opened text c.deref.result.now c.in-Ok.reading (Runs c.in-Runs.workload) c.in_ok-text.ensures.script c.deref.ensures.value c.in-Ok.ensures.reading c.in-Runs.is in
    let base = c.in_ok-base-in-Runs.base in
    let st = run_setting base c.args.origin.capacity in
    let made = c.in_ok-folder-in-Runs.ensures in
    let ends =
    subst (λ (there : Bool). EndsRun (RefusedBy g.D.NewFiles.refuses (maker_of c.args.folder)) st c.in-Runs.workload there why) made.there
    (subst (λ maker. EndsRun (RefusedBy g.D.NewFiles.refuses maker) st c.in-Runs.workload (is_some c.in_ok-folder-in-Runs.folder) why) made.maker c.in_err-outcome-in-Runs.ensures.ended) in
    rw (p.1, p.2)
    (run_failed (RefusedBy g.D.NewFiles.refuses (maker_of c.args.folder)) g.R.Read.remaining c.args.folder (RunBegins g.S.Read.remaining g.E.Write.contents c.args.origin c.args.errors.now c.base_of.new.errors) c.args.opened
    c.in-Runs.workload why st c.in_ok-text.ensures.opened read c.in_ok-folder-in-Runs.ensures.usable (base, c.in_ok-base-in-Runs.ensures.start, refl) ends)

pub returns-in_ok-outcome-in-Runs-clause-answer : goal.returns-in_ok-outcome-in-Runs-clause-answer
returns-in_ok-outcome-in-Runs-clause-answer g c =
    let text = c.in_ok-text.text.items in
    let read = read_as g.R.Read.remaining c.args.opened text c.deref.result.now c.in-Ok.reading (Runs c.in-Runs.workload) c.in_ok-text.ensures.script c.deref.ensures.value c.in-Ok.ensures.reading c.in-Runs.is in
    let base = c.in_ok-base-in-Runs.base in
    let run = subst (λ (there : Bool). IsWorkloadRun g.D.NewFiles.holds (run_setting base c.args.origin.capacity) c.in-Runs.workload there c.in_ok-outcome-in-Runs.folder c.in_ok-outcome-in-Runs.outcome) c.in_ok-folder-in-Runs.ensures.there c.in_ok-outcome-in-Runs.ensures.run in
    (c.in_ok-folder-in-Runs.ensures.usable, (c.in-Runs.workload, read, (run_setting base c.args.origin.capacity, (base, c.in_ok-base-in-Runs.ensures.start, refl), run)))

pub returns-in_err-text-clause-cause : goal.returns-in_err-text-clause-cause
returns-in_err-text-clause-cause g c =
    let p = err_from_is_err_and c.from_residual.result c.from_residual.ensures.1 in
    rw (p.1, p.2) (c.in_err-text.ensures.cause, refl {a = c.args.errors.now})

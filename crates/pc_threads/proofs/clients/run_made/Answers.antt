use Rattle.std.proofs.Common.{refl, ◌∙◌}
use Rattle.pc_jobs.specs.Jobs.{job_of, fill_key}
use Rattle.pc_jobs.specs.declared.works.Op.TheVariants.{Put}
use Rattle.pc_threads.proofs.DoneLaws.{filled_ones, unmade_one}
use Rattle.pc_threads.proofs.clients.run_made.Goals as goal

pub returns-in-Ok-clause-done : goal.returns-in-Ok-clause-done
returns-in-Ok-clause-done g c = filled_ones g.N.StoreName.name.setting (job_of c.args.fill.now c.args.number) c.as_job.result.now c.run_job.result c.args.session.now c.run_job.new.session (c.as_job.ensures ∙ c.in-Ok.ensures.job) c.run_job.ensures.done

pub returns-in-Err-clause-done : goal.returns-in-Err-clause-done
returns-in-Err-clause-done g c =
    let fill = c.args.fill.now in
    let number = c.args.number in
    unmade_one g.N.StoreName.name.setting (job_of fill number) (Put (fill_key fill number) fill.value) c.args.session.now refl c.in-Err.ensures.refusals.1

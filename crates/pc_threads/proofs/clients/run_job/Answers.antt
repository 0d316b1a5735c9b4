use Rattle.pc_threads.proofs.DoneLaws.{tried_is_done}
use Rattle.pc_threads.proofs.clients.run_job.Goals as goal

pub returns-clause-done : goal.returns-clause-done
returns-clause-done g c =
    let ended = c.client_loop-ended in
    tried_is_done g.N.StoreName.name.setting c.args.job.now c.from_ref.result.now ended.result.count.commits ended.result.count.given_up c.args.session.now ended.new.session c.from_ref.ensures.value ended.ensures.tried ended.ensures.all

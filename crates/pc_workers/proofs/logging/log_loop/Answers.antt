use Rattle.pc_workers.proofs.LoggingLaws.{logs_on, logs_stop}
use Rattle.pc_workers.proofs.logging.log_loop.Goals as goal

pub returns-in-Err-clause-text : goal.returns-in-Err-clause-text
returns-in-Err-clause-text g c =
    let q = c.in-Err.ensures.text in
    logs_stop g.W.Write.contents c.args.out.now c.loop.out c.turn.new.out c.in-Err.why g.N.StoreName.name.setting.run c.loop.pass q.0 c.turn.new.pass q.1 c.loop.invariant q.2

pub returns-in-Ok-Some-clause-text : goal.returns-in-Ok-Some-clause-text
returns-in-Ok-Some-clause-text g c =
    let q = c.in-Ok-Some.ensures.text in
    logs_on g.W.Write.contents c.args.out.now c.loop.out c.turn.new.out g.N.StoreName.name.setting.run c.loop.pass q.0 c.turn.new.pass q.1 c.loop.invariant q.2

pub loop-preserved : goal.loop-preserved
loop-preserved g c =
    let q = c.in-Ok-None.ensures.text in
    logs_on g.W.Write.contents c.args.out.now c.loop.out c.turn.new.out g.N.StoreName.name.setting.run c.loop.pass q.0 c.turn.new.pass q.1 c.loop.invariant q.2

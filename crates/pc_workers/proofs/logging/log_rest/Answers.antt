use Rattle.pc_workers.proofs.LoggingLaws.{whole_rest}
use Rattle.pc_workers.proofs.logging.log_rest.Goals as goal

pub returns-clause-whole : goal.returns-clause-whole
returns-clause-whole g c run out =
    whole_rest g.W.Write.contents c.args.out.now c.put_rest.new.out run c.args.closed.now.logged c.args.closed.now.world.log c.put_rest.result out c.put_rest.ensures

use Rattle.pc_model.proofs.KeyTreeLaws.{put_is}
use Rattle.pc_taken.proofs.lists.put_among.Goals as goal

pub returns-in-Ok-clause-put : goal.returns-in-Ok-clause-put
returns-in-Ok-clause-put c = put_is c.args.others.now c.insert.new.self c.args.key c.args.content c.insert.ensures.was_ordered c.insert.ensures.ordered c.in-Ok.ensures.updates

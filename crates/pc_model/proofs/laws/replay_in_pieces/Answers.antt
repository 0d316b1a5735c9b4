use Rattle.pc_model.proofs.LogLaws.{after-append}
use Rattle.pc_model.proofs.laws.replay_in_pieces.Goals as goal

pub returns : goal.returns
returns c base log more = after-append base log more

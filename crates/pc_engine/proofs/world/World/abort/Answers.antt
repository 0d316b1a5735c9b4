use Rattle.std.proofs.Common.{◌≡◌}
use Rattle.pc_engine.proofs.Answered.{abort_refused}
use Rattle.pc_engine.proofs.Endings.{aborts_follows}
use Rattle.pc_engine.proofs.Standing.{aborts_keeps}
use Rattle.pc_engine.proofs.world.World.abort.Goals as goal

pub returns : goal.returns
returns c =
    let kept = aborts_keeps _ _ _ _ c.abort_transaction.ensures in
    record { follows = λ history stands. aborts_follows _ _ history _ _ stands c.abort_transaction.ensures; setting = kept.0; refused = abort_refused c.abort_transaction.result (c.abort_transaction.new.self ≡ c.args.self.now) kept.1 }

use Rattle.std.proofs.Common.{◌≡◌}
use Rattle.pc_engine.proofs.Answered.{begin_refused}
use Rattle.pc_engine.proofs.Endings.{begins_follows}
use Rattle.pc_engine.proofs.Standing.{begins_keeps}
use Rattle.pc_engine.proofs.world.World.begin.Goals as goal

pub returns : goal.returns
returns c =
    let kept = begins_keeps _ _ _ _ c.open_transaction.ensures in
    record { follows = λ history stands. begins_follows _ _ history _ _ stands c.open_transaction.ensures; setting = kept.0; refused = begin_refused c.open_transaction.result (c.open_transaction.new.self ≡ c.args.self.now) kept.1 }

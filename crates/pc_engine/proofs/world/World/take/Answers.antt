use Rattle.std.proofs.Common.{◌≡◌}
use Rattle.pc_engine.proofs.Answered.{take_refused}
use Rattle.pc_engine.proofs.Cycles.{takes_follows}
use Rattle.pc_engine.proofs.Standing.{takes_keeps}
use Rattle.pc_engine.proofs.world.World.take.Goals as goal

pub returns : goal.returns
returns c =
    let kept = takes_keeps _ _ _ c.take_key.ensures in
    record { follows = λ history stands. takes_follows _ _ history _ stands c.take_key.ensures; setting = kept.0; refused = take_refused c.take_key.result (c.take_key.new.self ≡ c.args.self.now) kept.1 }

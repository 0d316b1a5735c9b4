use Rattle.std.proofs.Common.{◌≡◌}
use Rattle.pc_engine.proofs.Answered.{get_refused}
use Rattle.pc_engine.proofs.Requests.{gets_follows}
use Rattle.pc_engine.proofs.Standing.{gets_keeps}
use Rattle.pc_engine.proofs.world.World.get.Goals as goal

pub returns : goal.returns
returns c =
    let kept = gets_keeps _ _ _ _ _ c.read_key.ensures in
    record { follows = λ history stands. gets_follows _ _ history _ _ stands _ c.read_key.ensures; setting = kept.0; refused = get_refused c.read_key.result (c.read_key.new.self ≡ c.args.self.now) kept.1 }

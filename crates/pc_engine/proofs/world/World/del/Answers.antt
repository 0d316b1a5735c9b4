use Rattle.std.proofs.Common.{◌≡◌, None}
use Rattle.pc_engine.proofs.Answered.{write_refused}
use Rattle.pc_engine.proofs.Requests.{dels_follows}
use Rattle.pc_engine.proofs.Standing.{writes_keeps}
use Rattle.pc_engine.proofs.world.World.del.Goals as goal

pub returns : goal.returns
returns c =
    let kept = writes_keeps _ _ _ None _ _ c.write_key.ensures in
    record { follows = λ history stands. dels_follows _ _ history _ _ stands _ c.as_bytes.ensures.in_limits c.write_key.ensures; setting = kept.0; refused = write_refused c.write_key.result (c.write_key.new.self ≡ c.args.self.now) kept.1 }

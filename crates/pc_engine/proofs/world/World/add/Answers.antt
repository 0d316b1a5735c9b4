use Rattle.std.proofs.Common.{◌≡◌}
use Rattle.std.specs.Int.{w64}
use Rattle.std.proofs.lemmas.Int.{to_z-of_z}
use Rattle.pc_engine.proofs.Answered.{add_refused}
use Rattle.pc_engine.proofs.Requests.{adds_follows}
use Rattle.pc_engine.proofs.Standing.{adds_keeps}
use Rattle.pc_engine.proofs.world.World.add.Goals as goal

pub returns : goal.returns
returns c =
    let whole = to_z-of_z w64 c.args.delta c.ranges.delta in
    let adds = rw whole at c.add_to_key.ensures in
    let kept = adds_keeps _ _ _ _ _ _ adds in
    record { follows = λ history stands. adds_follows _ _ history _ _ stands _ _ (c.as_bytes.ensures.in_limits, rw whole at c.number_fits.ensures) adds; setting = kept.0; refused = add_refused c.add_to_key.result (c.add_to_key.new.self ≡ c.args.self.now) kept.1 }

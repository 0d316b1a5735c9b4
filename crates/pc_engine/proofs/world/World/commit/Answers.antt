use Rattle.std.proofs.Common.{◌≡◌}
use Rattle.pc_engine.proofs.Answered.{commit_refused}
use Rattle.pc_engine.proofs.Endings.{commits_follows}
use Rattle.pc_engine.proofs.Standing.{commits_keeps}
use Rattle.pc_engine.proofs.world.World.commit.Goals as goal

pub returns : goal.returns
returns c =
    let kept = commits_keeps _ _ _ _ c.commit_transaction.ensures in
    record { follows = λ history stands. commits_follows _ _ history _ _ stands c.commit_transaction.ensures; setting = kept.0; refused = commit_refused c.commit_transaction.result (c.commit_transaction.new.self ≡ c.args.self.now) kept.1 }

use Rattle.std.proofs.Common.{List, ℕ, Some, take, subst, sym}
use Rattle.pc_turn.specs.Devices.{Grows}
use Rattle.test_serving.proofs.KillLaws.{first_stay}
use Rattle.test_serving.proofs.kills.KnownLogLogDevice.append.Goals as goal

pub returns-in-Ok-clause-kept : goal.returns-in-Ok-clause-kept
returns-in-Ok-clause-kept c =
    subst (λ (text : List ℕ). Grows (Some (take c.args.self.now.kept c.args.self.now.bytes.items)) (Some (take c.args.self.now.kept text))) (sym c.in-Ok.ensures.items)
    (first_stay c.args.self.now.kept c.args.self.now.bytes.items c.args.bytes.now)

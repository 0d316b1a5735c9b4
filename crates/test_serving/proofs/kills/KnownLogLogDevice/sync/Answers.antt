use Rattle.std.proofs.Common.{◌∙◌}
use Rattle.test_serving.proofs.KillLaws.{all_grow}
use Rattle.test_serving.proofs.kills.KnownLogLogDevice.sync.Goals as goal

pub returns-clause-kept : goal.returns-clause-kept
returns-clause-kept c = all_grow c.args.self.now.kept c.len-self.result c.args.self.now.bytes.items (c.len-self.ensures ∙ c.args.self.now.bytes.ok.0)

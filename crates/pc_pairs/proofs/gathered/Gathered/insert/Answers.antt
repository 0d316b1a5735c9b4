use Rattle.std.proofs.Common.{ap, Some, ◌∙◌}
use Rattle.pc_model.specs.Database.{put}
use Rattle.pc_replay.proofs.TreeLemmas.{put-tree}
use Rattle.pc_pairs.proofs.gathered.Gathered.insert.Goals as goal

pub returns-in-Ok : goal.returns-in-Ok
returns-in-Ok c = put-tree c.self.inside.pairs c.insert.new.self c.args.key (Some c.args.value) c.in-Ok.ensures.updates.0 ∙ ap (λ db. put db c.args.key (Some c.args.value)) c.self.view_is

use Rattle.std.proofs.Common.{ap, Some, ◌∙◌}
use Rattle.pc_model.specs.Database.{put}
use Rattle.pc_audit.proofs.TableLemmas.{put-table}
use Rattle.pc_audit.proofs.table.Table.insert.Goals as goal

pub returns-in-Ok : goal.returns-in-Ok
returns-in-Ok c = put-table c.self.inside.pairs c.insert.new.self c.args.key (Some c.args.value) c.in-Ok.ensures.updates.0 ∙ ap (λ db. put db c.args.key (Some c.args.value)) c.self.view_is

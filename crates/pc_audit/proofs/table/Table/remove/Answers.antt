use Rattle.std.proofs.Common.{ap, None, ◌∙◌}
use Rattle.pc_model.specs.Database.{put}
use Rattle.pc_audit.proofs.TableLemmas.{put-table}
use Rattle.pc_audit.proofs.table.Table.remove.Goals as goal

pub returns : goal.returns
returns c = put-table c.self.inside.pairs c.remove.new.self c.args.key.now None c.remove.ensures.updates.0 ∙ ap (λ db. put db c.args.key.now None) c.self.view_is

use Rattle.std.proofs.Common.{ap, sym, ◌∙◌}
use Rattle.pc_model.specs.Maps.{get}
use Rattle.pc_audit.proofs.TableLemmas.{get-table}
use Rattle.pc_audit.proofs.table.Table.get.Goals as goal

pub returns : goal.returns
returns c = c.get.ensures.value ∙ sym (ap (λ db. get db c.args.key.now) (sym c.self.view_is) ∙ get-table c.self.inside.pairs c.args.key.now)

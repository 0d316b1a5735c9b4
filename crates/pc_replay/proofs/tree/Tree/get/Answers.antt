use Rattle.std.proofs.Common.{ap, sym, ◌∙◌}
use Rattle.pc_model.specs.Maps.{get}
use Rattle.pc_replay.proofs.TreeLemmas.{get-tree}
use Rattle.pc_replay.proofs.tree.Tree.get.Goals as goal

pub returns : goal.returns
returns c = c.get.ensures.value ∙ sym (ap (λ db. get db c.args.key.now) (sym c.self.view_is) ∙ get-tree c.self.inside.pairs c.args.key.now)

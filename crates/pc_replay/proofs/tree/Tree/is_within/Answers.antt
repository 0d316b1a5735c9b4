use Rattle.std.proofs.Common.{ap, sym, ◌∙◌, Some}
use Rattle.std.specs.List.{list_all}
use Rattle.pc_model.specs.Maps.{get}
use Rattle.pc_model.specs.Files.{same_content}
use Rattle.pc_replay.specs.Trees.{has_all}
use Rattle.pc_replay.proofs.TreeLemmas.{entries_of_tree}
use Rattle.pc_replay.proofs.tree.Tree.is_within.Goals as goal

pub returns : goal.returns
returns c =
    c.all_in.ensures.all
    ∙ ap (list_all (λ e. same_content (Some e.1) (get c.args.other.now e.0))) (sym (entries_of_tree c.self.inside.pairs c.all_in.ensures.ordered))
    ∙ ap (λ db. has_all db c.args.other.now) c.self.view_is

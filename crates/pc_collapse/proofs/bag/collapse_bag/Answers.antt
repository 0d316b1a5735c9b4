use Rattle.std.proofs.Common.{◌++◌, ◌∙◌, List, append-nil, ap, subst}
use Rattle.pc_model.specs.Files.{File}
use Rattle.pc_collapse.specs.Worth.{JoinsToOne}
use Rattle.pc_collapse.proofs.FoldedFiles.{joins_fold}
use Rattle.pc_collapse.proofs.bag.collapse_bag.Goals as goal

pub returns : goal.returns
returns g c = joins_fold c.args.parts.now _ c.in_ok-check_runs.ensures (subst (λ (files : List File). JoinsToOne files c.collapse.result) (ap (λ (files : List File). c.args.parts.now ++ files) c.new.ensures.items ∙ append-nil c.args.parts.now) c.collapse.ensures)

use Rattle.std.proofs.Common.{ap, ◌∙◌}
use Rattle.std.specs.FinMap.{find}
use Rattle.pc_model.specs.Maps.{get}
use Rattle.pc_model.specs.Database.{key_cmp}
use Rattle.pc_model.proofs.PairMapLaws.{of_get}
use Rattle.pc_replay.proofs.pairs.Pairs.get.Goals as goal

pub returns : goal.returns
returns c = c.value_of.ensures ∙ ap (find key_cmp c.args.key.now) c.deref.ensures.value ∙ of_get c.self.inside.pairs.items c.args.key.now ∙ ap (λ m. get m c.args.key.now) c.self.view_is

use Rattle.std.proofs.Common.{ap, ◌∙◌}
use Rattle.pc_model.specs.Maps.{remove}
use Rattle.pc_model.proofs.PairMapLaws.{of_without}
use Rattle.pc_replay.proofs.pairs.Pairs.remove.Goals as goal

pub invariant_of-self : goal.invariant_of-self
invariant_of-self c = (of_without c.self.inside.pairs.items c.unset.new.pairs.items c.args.key.now c.self.invariant c.unset.ensures).sorted

pub returns : goal.returns
returns c = (of_without c.self.inside.pairs.items c.unset.new.pairs.items c.args.key.now c.self.invariant c.unset.ensures).removes ∙ ap (λ m. remove m c.args.key.now) c.self.view_is

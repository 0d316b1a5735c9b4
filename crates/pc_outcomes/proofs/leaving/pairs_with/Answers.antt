use Rattle.std.proofs.Common.{◌∙◌, ap}
use Rattle.pc_model.specs.Files.{BaseFile}
use Rattle.pc_model.specs.Maps.{len}
use Rattle.pc_model.proofs.PairMapLaws.{len_of}
use Rattle.pc_outcomes.proofs.leaving.pairs_with.Goals as goal

pub returns-clause-pairs : goal.returns-clause-pairs
returns-clause-pairs c =
    len_of c.pairs.result.now c.pairs.ensures.rise ∙ ap len c.pairs.ensures.pairs ∙ ap (λ (base : BaseFile). len base.pairs) c.in_ok-laid.ensures.laid

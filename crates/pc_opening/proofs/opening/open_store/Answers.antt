use Rattle.std.proofs.Common.{◌≡◌, ◌∙◌, length, ap, arith}
use Rattle.pc_model.specs.Maps.{len}
use Rattle.pc_model.proofs.PairMapLaws.{len_of}
use Rattle.pc_opening.proofs.opening.open_store.Goals as goal

pub returns-in-Err-clause-full : goal.returns-in-Err-clause-full
returns-in-Err-clause-full g c =
    let count : length c.pairs.result.now ≡ len c.args.base.pairs = len_of c.pairs.result.now c.pairs.ensures.rise ∙ ap len c.pairs.ensures.pairs in
    λ over. absurd (omega arith)

pub returns-in-Err-new-clause-full : goal.returns-in-Err-new-clause-full
returns-in-Err-new-clause-full g c =
    let count : length c.pairs.result.now ≡ len c.args.base.pairs = len_of c.pairs.result.now c.pairs.ensures.rise ∙ ap len c.pairs.ensures.pairs in
    λ over. absurd (omega arith)

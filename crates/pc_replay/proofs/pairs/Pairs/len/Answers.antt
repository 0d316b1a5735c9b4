use Rattle.std.proofs.Common.{ap, ◌∙◌}
use Rattle.pc_model.specs.Maps as map
use Rattle.pc_model.proofs.PairMapLaws.{len_of}
use Rattle.pc_replay.proofs.pairs.Pairs.len.Goals as goal

pub returns : goal.returns
returns c = len_of c.as_slice.result.now c.as_slice.ensures.rise ∙ ap map.len c.as_slice.ensures.pairs

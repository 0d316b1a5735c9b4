use Rattle.std.proofs.Common.{◌∙◌, ap}
use Rattle.pc_model.specs.Maps.{len}
use Rattle.pc_model.proofs.PairMapLaws.{len_of}
use Rattle.pc_server.proofs.server.Server.count_pairs.Goals as goal

pub returns : goal.returns
returns c = λ history stands. c.len.ensures ∙ (c.in_ok-pairs.pairs.ok.0 ∙ (len_of c.in_ok-pairs.pairs.items c.in_ok-pairs.ensures.rise ∙ ap len (c.in_ok-pairs.ensures.replayed history stands)))

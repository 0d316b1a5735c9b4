use Rattle.std.proofs.Common.{ap, ◌∙◌}
use Rattle.pc_model.specs.Maps.{len}
use Rattle.pc_model.proofs.PairMapLaws.{len_of}
use Rattle.pc_verify.specs.Findings.{head_of}
use Rattle.pc_verify.proofs.findings.base_finding.Goals as goal

pub returns-in-Ok : goal.returns-in-Ok
returns-in-Ok c = (c.in-Ok.base, c.in-Ok.ensures.exact, c.head_of.ensures ∙ ap (head_of c.args.bytes.now) c.run.ensures, c.point.ensures, len_of c.pairs.result.now c.pairs.ensures.rise ∙ ap len c.pairs.ensures.pairs)

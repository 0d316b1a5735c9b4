use Rattle.std.proofs.Common.{ap, ◌∙◌}
use Rattle.std.specs.Int.{w64, to_be_bytes, cast_unsigned}
use Rattle.std.proofs.lemmas.Int.{to_z-of_z}
use Rattle.pc_types.specs.Changes.{number_text}
use Rattle.pc_log.proofs.encoding.number_bytes.Goals as goal

pub returns : goal.returns
unfolding number_text
returns c = c.to_be_bytes.ensures ∙ ap (λ z. to_be_bytes w64 (cast_unsigned w64 z)) (to_z-of_z w64 c.args.number c.ranges.number)

use Rattle.std.proofs.Common.{Some, option_copied, sym, ap, ◌∙◌}
use Rattle.std.specs.Int.{w64}
use Rattle.std.proofs.lemmas.Int.{to_z-of_z}
use Rattle.pc_types.specs.Changes.{added}
use Rattle.pc_types.proofs.SumLaws.{zero_with}
use Rattle.pc_types.proofs.changes.sum.Goals as goal

pub returns-in-None : goal.returns-in-None
returns-in-None c = ap Some (to_z-of_z w64 c.args.delta c.ranges.delta) ∙ zero_with c.args.delta c.ranges.delta ∙ sym (ap (λ t. added c.args.delta (option_copied t)) c.in-None.is)

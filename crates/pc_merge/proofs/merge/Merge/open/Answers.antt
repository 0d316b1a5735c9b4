use Rattle.std.proofs.Common.{◌≡◌, Some, map}
use Rattle.pc_merge.specs.Inputs.{all_left}
use Rattle.pc_merge.specs.Merging.{IsCause}
use Rattle.pc_merge.proofs.MergeLaws.{still_wrong}
use Rattle.pc_merge.proofs.merge.Merge.open.Goals as goal

pub returns-in-Err-clause-known : goal.returns-in-Err-clause-known
returns-in-Err-clause-known g c = λ was known.
    still_wrong (λ x. all_left (map g.E.Entries.coming c.draw_firsts-answer.new.inputs) c.draw_firsts-answer.new.firsts ≡ Some was) _ (IsCause was) c.draw_firsts-answer.result c.in-Err.why c.in-Err.is
    (c.draw_firsts-answer.ensures.known was known)

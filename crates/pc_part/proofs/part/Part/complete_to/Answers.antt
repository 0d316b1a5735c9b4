use Rattle.std.proofs.Common.{ap, ◌∙◌}
use Rattle.pc_part.specs.Parts.{bounds_of, last_covered}
use Rattle.pc_part.proofs.CompleteParts.{complete_is}
use Rattle.pc_part.proofs.part.Part.complete_to.Goals as goal

pub returns : goal.returns
returns c = complete_is c.self.inside.ranges.items c.args.self.now.points c.self.invariant.0 (ap (λ f. f.points) c.self.view_is) c.last_covered.result
    (c.last_covered.ensures ∙ ap (λ ranges. last_covered (bounds_of ranges)) c.deref.ensures.value)

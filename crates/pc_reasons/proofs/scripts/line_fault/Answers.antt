use Rattle.std.proofs.Common.{map, rules, ap, ◌∙◌}
use Rattle.pc_reasons.specs.LineFaults.{reported_fault}
use Rattle.pc_reasons.proofs.FirstWords.{fault_of_first}
use Rattle.pc_reasons.proofs.scripts.line_fault.Goals as goal

pub returns : goal.returns
returns c =
    c.told_of.ensures ∙ ap (reported_fault c.args.line.now) (search rules)
    ∙ fault_of_first c.args.line.now (map (λ w. w.now) c.deref.result.now) (search rules) (ap (map (λ w. w.now)) c.deref.ensures.0 ∙ c.first_words.ensures)

use Rattle.std.proofs.Common.{map, rules, ap, ◌∙◌}
use Rattle.pc_reasons.specs.Workloads.{told_role}
use Rattle.pc_reasons.proofs.FirstWords.{role_of_first}
use Rattle.pc_reasons.proofs.workloads.role_of.Goals as goal

pub returns : goal.returns
returns c =
    c.told_role.ensures ∙ ap (told_role c.args.line.now) (search rules)
    ∙ role_of_first c.args.line.now (map (λ w. w.now) c.deref.result.now) (search rules) (ap (map (λ w. w.now)) c.deref.ensures.0 ∙ c.first_words.ensures)

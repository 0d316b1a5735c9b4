use Rattle.std.proofs.Common.{◌≡◌, IfOk, map, rules, subst, ap, ◌∙◌}
use Rattle.pc_lines.proofs.LineLemmas.{spelled_words}
use Rattle.pc_lines.proofs.lines.read_line.Goals as goal

pub returns-clause-line : goal.returns-clause-line
returns-clause-line c =
    subst (λ line. IfOk c.spelled_by.result (λ read. read ≡ line)) (spelled_words c.args.text.now (map (λ w. w.now) c.deref.result.now) (search rules) (ap (map (λ w. w.now)) c.deref.ensures.0 ∙ c.first_words.ensures)) c.spelled_by.ensures.line

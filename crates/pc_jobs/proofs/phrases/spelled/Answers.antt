use Rattle.std.proofs.Common.{◌≡◌, IfOk, map, rules, subst, ap, ◌∙◌}
use Rattle.pc_jobs.proofs.PhraseLemmas.{spelled_words}
use Rattle.pc_jobs.proofs.phrases.spelled.Goals as goal

pub returns-clause-phrase : goal.returns-clause-phrase
returns-clause-phrase c =
    subst (λ phrase. IfOk c.spelled_by.result (λ read. read ≡ phrase)) (spelled_words c.args.text.now (map (λ w. w.now) c.deref.result.now) (search rules) (ap (map (λ w. w.now)) c.deref.ensures.0 ∙ c.first_words.ensures)) c.spelled_by.ensures.phrase

use Rattle.std.proofs.Common.{map, arith, sym}
use Rattle.std.proofs.lemmas.List.{length-map}
use Rattle.pc_jobs.proofs.PhraseLemmas.{many_words}
use Rattle.pc_jobs.proofs.phrases.spelled_by.Goals as goal

pub returns-in_default-clause-phrase : goal.returns-in_default-clause-phrase
returns-in_default-clause-phrase c =
    let same = length-map c.args.words.now (λ w. w.now) in
    sym (many_words (map (λ w. w.now) c.args.words.now) (omega (arith, same)))

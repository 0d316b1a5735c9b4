use Rattle.pc_script.proofs.ScriptLemmas.{first_answered}
use Rattle.pc_script.proofs.script.answer_first.Goals as goal

pub returns-in-Some-clause-answer : goal.returns-in-Some-clause-answer
returns-in-Some-clause-answer c =
    first_answered c.args.setup c.args.pairs c.args.line c.answer_stored-answer.result c.in-Some.world c.answer_stored-answer.new.world c.in-Some.ensures c.answer_stored-answer.ensures.setting c.answer_stored-answer.ensures.answer

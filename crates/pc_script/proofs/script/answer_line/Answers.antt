use Rattle.pc_script.proofs.ScriptLemmas.{store_answered}
use Rattle.pc_script.proofs.script.answer_line.Goals as goal

pub returns-in-Store-clause-answer : goal.returns-in-Store-clause-answer
returns-in-Store-clause-answer c =
    store_answered c.args.setup c.args.made c.args.line c.answer_stored-answer.result c.in-Store.world c.answer_stored-answer.new.world c.in-Store.is c.answer_stored-answer.ensures.setting c.answer_stored-answer.ensures.answer

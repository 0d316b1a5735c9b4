use Rattle.std.proofs.Common.{refl}
use Rattle.pc_script.specs.Scripts.ScriptStage.{Reading}
use Rattle.pc_script.proofs.script.answer_base.Goals as goal

pub returns-in-Sets-clause-answer : goal.returns-in-Sets-clause-answer
returns-in-Sets-clause-answer c =
    let next = c.add_pair-answer.new.pairs in
    rw c.in-Sets.is (Reading next, refl, (next, c.add_pair-answer.ensures.answer, refl))

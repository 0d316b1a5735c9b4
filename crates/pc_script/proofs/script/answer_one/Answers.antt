use Rattle.pc_io.proofs.KnownBytesLaws.{part_begins}
use Rattle.pc_script.specs.Scripts.{answer_text}
use Rattle.pc_script.proofs.ScriptLemmas.{in_err}
use Rattle.pc_script.proofs.script.answer_one.Goals as goal

pub returns-in_err-say-clause-in_part : goal.returns-in_err-say-clause-in_part
returns-in_err-say-clause-in_part g c =
    let contents = g.W.Write.contents in
    let answer = c.answer_line-answer.result.0 in
    in_err c.from_residual.result (λ stage held.
    let said = c.answer_line-answer.ensures.answer stage held in
    (answer, said.0, said.2, part_begins (contents c.args.out.now.inner) (contents c.say.new.out.inner) (answer_text answer) c.in_err-say.ensures.2))

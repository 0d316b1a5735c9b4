use Rattle.std.proofs.Common.{◌∙◌}
use Rattle.pc_server.proofs.ServingLaws.{line_lost, line_served}
use Rattle.pc_server.proofs.serve.answer_line.Goals as goal

pub returns-in-Ok-clause-served : goal.returns-in-Ok-clause-served
returns-in-Ok-clause-served g c = λ log out st lag lines files (gone, turn, at, history, holds, these, same, there).
    line_served g.L.LogDevice.written g.L.LogDevice.kept g.W.Write.contents log out st lag files gone turn at history lines c.args.line.now c.answer.new.self c.answer.result c.in-Ok.goes_on these (c.answer.ensures.lag ∙ same) there c.in-Ok.is (c.answer.ensures.answered st log out gone turn at history holds)

pub returns-in-Err-clause-served : goal.returns-in-Err-clause-served
returns-in-Err-clause-served g c = λ log out st lag lines files serving. line_lost g.L.LogDevice.written g.L.LogDevice.kept g.W.Write.contents log out st lag files lines c.args.service.now c.answer.new.self serving c.answer.ensures.devices

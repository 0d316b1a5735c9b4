use Rattle.std.proofs.Common.{◌∙◌}
use Rattle.pc_server.proofs.ServingLaws.{sent_part, sent_whole}
use Rattle.pc_server.proofs.serve.send_all.Goals as goal

pub returns-in-Ok-clause-sent : goal.returns-in-Ok-clause-sent
returns-in-Ok-clause-sent g c = λ log out st lag lines files (gone, turn, at, history, holds, these, same, there).
    sent_whole g.L.LogDevice.written g.L.LogDevice.kept g.W.Write.contents log out st lag files gone turn at history lines c.args.service.now.server.lag c.close.new.self c.close.result tt these (c.close.ensures.same.0 ∙ same) there c.in-Ok.is (c.close.ensures.ended st log out gone turn at history holds)

pub returns-in-Err-clause-sent : goal.returns-in-Err-clause-sent
returns-in-Err-clause-sent g c = λ log out st lag lines files (gone, turn, at, history, holds, these, same, there).
    sent_part g.L.LogDevice.written g.L.LogDevice.kept g.W.Write.contents log out st lag files gone turn at history lines c.args.service.now.server.lag c.close.new.self c.close.result c.in-Err.why these same there c.in-Err.is (c.close.ensures.ended st log out gone turn at history holds)

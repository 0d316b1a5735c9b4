use Rattle.std.proofs.Common.{◌∙◌}
use Rattle.pc_server.proofs.ServingLaws.{sent_part, sent_whole}
use Rattle.pc_server.proofs.serve.send.Goals as goal

pub returns-in-Ok : goal.returns-in-Ok
returns-in-Ok g c = λ log out st lag lines files (gone, turn, at, history, holds, these, same, there).
    sent_whole g.L.LogDevice.written g.L.LogDevice.kept g.W.Write.contents log out st lag files gone turn at history lines c.args.service.now.server.lag c.end_turn.new.self c.end_turn.result tt these (c.end_turn.ensures.lag ∙ same) there c.in-Ok.is (c.end_turn.ensures.ended st log out gone turn at history holds)

pub returns-in-Err : goal.returns-in-Err
returns-in-Err g c = λ log out st lag lines files (gone, turn, at, history, holds, these, same, there).
    sent_part g.L.LogDevice.written g.L.LogDevice.kept g.W.Write.contents log out st lag files gone turn at history lines c.args.service.now.server.lag c.end_turn.new.self c.end_turn.result c.in-Err.why these same there c.in-Err.is (c.end_turn.ensures.ended st log out gone turn at history holds)

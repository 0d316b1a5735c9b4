use Rattle.pc_server.proofs.ServerLaws.{on_ok}
use Rattle.pc_server.proofs.ServiceLaws.{line_answered}
use Rattle.pc_server.proofs.service.Service.answer.Goals as goal

pub returns-clause-answered : goal.returns-clause-answered
returns-clause-answered g c = λ st log out gone turn at history holds.
    on_ok c.answer.result (λ (text, next, told, stays). (text, next, told, line_answered g.L.LogDevice.written g.L.LogDevice.kept g.W.Write.contents log out st gone turn at history next c.args.self.now c.answer.new.self c.args.line.now text holds told stays c.answer.ensures.same.1))
    (c.answer.ensures.answered st gone turn at history holds.stays)

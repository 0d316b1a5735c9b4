use Rattle.pc_server.proofs.ServiceLaws.{point_went}
use Rattle.pc_server.proofs.service.Service.go_on.Goals as goal

pub returns-clause-went : goal.returns-clause-went
returns-clause-went g c = λ st log out gone turn at history holds.
    point_went g.L.LogDevice.written g.L.LogDevice.kept g.W.Write.contents log out st gone turn at history c.args.self.now c.go_on.new.self c.go_on.result holds c.go_on.ensures.same.1 (c.go_on.ensures.went st gone turn at history holds.stays)

use Rattle.pc_server.proofs.ServingLaws.{sent_serves}
use Rattle.pc_server.proofs.serve.send_if_idle.Goals as goal

pub returns : goal.returns
returns g c = λ log out st lag lines files serving. sent_serves g.L.LogDevice.written g.L.LogDevice.kept g.W.Write.contents log out st lag files lines c.send.new.service c.send.result (c.send.ensures log out st lag lines files serving)

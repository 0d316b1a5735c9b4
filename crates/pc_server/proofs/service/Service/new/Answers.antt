use Rattle.std.proofs.Common.{refl}
use Rattle.pc_io.specs.Tallies.{inner_of}
use Rattle.pc_engine.specs.Store.{setting_of}
use Rattle.pc_server.proofs.ServiceLaws.{begins, serves_from}
use Rattle.pc_server.proofs.service.Service.new.Goals as goal

pub returns-clause-holds : goal.returns-clause-holds
returns-clause-holds g c = λ stands grows.
    begins g.L.LogDevice.written g.L.LogDevice.kept g.W.Write.contents (g.L.LogDevice.written c.args.log) (g.W.Write.contents (inner_of c.args.out)) (setting_of c.args.world) c.new-server.result c.args.log c.args.out (c.new-server.ensures.stays stands) c.new-server.ensures.marks refl refl grows

pub returns-clause-serves : goal.returns-clause-serves
returns-clause-serves g c = λ stands grows.
    serves_from g.L.LogDevice.written g.L.LogDevice.kept g.W.Write.contents (g.L.LogDevice.written c.args.log) (g.W.Write.contents (inner_of c.args.out)) (setting_of c.args.world) c.args.lag (record { server = c.new-server.result; log = c.args.log; out = c.args.out }) c.new-server.ensures.lag
    (begins g.L.LogDevice.written g.L.LogDevice.kept g.W.Write.contents (g.L.LogDevice.written c.args.log) (g.W.Write.contents (inner_of c.args.out)) (setting_of c.args.world) c.new-server.result c.args.log c.args.out (c.new-server.ensures.stays stands) c.new-server.ensures.marks refl refl grows)

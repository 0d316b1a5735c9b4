use Rattle.pc_server.proofs.LossLaws.{kills_lose_none}
use Rattle.pc_server.proofs.laws.kills_lose_no_answer.Goals as goal

pub returns : goal.returns
returns g c = λ input left stopped st lag before sent files first known ends only none.
    kills_lose_none c.every_cut_of_a_world_is_recovered.ensures g.L.LogDevice.written g.L.LogDevice.kept g.W.Write.contents before sent input left stopped st lag (g.P.PointFiles.holds first) (g.P.PointFiles.holds c.args.points.now) none c.args.service.now files known ends only

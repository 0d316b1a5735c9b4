use Rattle.std.proofs.Common.{sym, ◌∙◌}
use Rattle.pc_server.proofs.FileLaws.{none_kept, shelf_kept}
use Rattle.pc_server.proofs.serve.keep_shelved.Goals as goal

pub returns-in-Some : goal.returns-in-Some
returns-in-Some g c = λ first files shelves points all only.
    shelf_kept (g.P.PointFiles.holds first) (g.P.PointFiles.holds c.args.points.now) (g.P.PointFiles.holds c.keep_file.new.points) files c.args.service.now.server.served.world.shelf c.keep_file.result c.args.turned c.in-Some.number (sym c.shelved.ensures ∙ c.in-Some.is) shelves points all only c.keep_file.ensures

pub returns-in-None : goal.returns-in-None
returns-in-None g c = λ first files shelves points all only.
    none_kept (g.P.PointFiles.holds first) (g.P.PointFiles.holds c.args.points.now) files c.args.service.now.server.served.world.shelf c.args.turned (sym c.shelved.ensures ∙ c.in-None.is) shelves all only

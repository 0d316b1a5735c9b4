use Rattle.std.proofs.Common.{subst, sym, ◌∙◌}
use Rattle.std.specs.Prelude.{MatchResult}
use Rattle.pc_server.specs.Files.{AreOfPoints, HasAllFiles, HasOnlyFiles, ExtendsShelf}
use Rattle.pc_server.proofs.FileLaws.{LeavesShelf}
use Rattle.pc_server.proofs.ServingLaws.{files_served, point_refused, point_served}
use Rattle.pc_server.proofs.serve.go_on.Goals as goal

pub returns-in-Ok : goal.returns-in-Ok
returns-in-Ok g c = λ log out st lag lines first (files, (gone, turn, at, history, holds, these, same, there), all, only).
    let (later, serving, left, points, shelf) =
    point_served g.L.LogDevice.written g.L.LogDevice.kept g.W.Write.contents log out st lag files gone turn at history lines c.go_on.new.self c.go_on.result these (c.go_on.ensures.lag ∙ same) there (c.go_on.ensures.went st log out gone turn at history holds) in
    let shelves : ExtendsShelf c.in-Ok.turned files later = subst (λ r. LeavesShelf r files later) c.in-Ok.is left in
    files_served g.L.LogDevice.written g.L.LogDevice.kept g.W.Write.contents log out st lag (g.P.PointFiles.holds first) (g.P.PointFiles.holds c.keep_shelved.new.points) lines later c.go_on.new.self c.keep_shelved.result serving
    (subst (λ s. MatchResult c.keep_shelved.result (λ _. HasAllFiles (g.P.PointFiles.holds c.keep_shelved.new.points) s × HasOnlyFiles (g.P.PointFiles.holds first) (g.P.PointFiles.holds c.keep_shelved.new.points) s) (λ _. HasOnlyFiles (g.P.PointFiles.holds first) (g.P.PointFiles.holds c.keep_shelved.new.points) s)) shelf
    (c.keep_shelved.ensures first files (subst (ExtendsShelf c.in-Ok.turned files) (sym shelf) shelves) (subst AreOfPoints (sym shelf) points) all only))

pub returns-in-Err : goal.returns-in-Err
returns-in-Err g c = λ log out st lag lines first (files, (gone, turn, at, history, holds, these, same, there), all, only).
    point_refused g.L.LogDevice.written g.L.LogDevice.kept g.W.Write.contents log out st lag (g.P.PointFiles.holds first) (g.P.PointFiles.holds c.args.points.now) lines files c.go_on.new.self c.go_on.result c.in-Err.why c.in-Err.is only
    (point_served g.L.LogDevice.written g.L.LogDevice.kept g.W.Write.contents log out st lag files gone turn at history lines c.go_on.new.self c.go_on.result these (c.go_on.ensures.lag ∙ same) there (c.go_on.ensures.went st log out gone turn at history holds))

use Rattle.std.proofs.Common.{true, false, ap, ◌≡◌, ◌∙◌}
use Rattle.std.specs.Prelude.{Ok}
use Rattle.std.specs.Io.Buffered.{reader_remaining}
use Rattle.pc_server.proofs.ServingLaws.{line_err, line_ok, serves_end}
use Rattle.pc_server.proofs.serve.serve_lines.Goals as goal

pub serve_line-requires : goal.serve_line-requires
serve_line-requires g c =
    let (log, out, text, st, lag, first, serving) = c.requires in
    (log, out, text, st, lag, first, c.loop.invariant log out text st lag first serving)

pub returns-in-Ok-false-clause-served : goal.returns-in-Ok-false-clause-served
returns-in-Ok-false-clause-served g c = λ log out text st lag first serving.
    let is : c.serve_line.result ≡ Ok false = c.in-Ok-false.is ∙ ap Ok c.in-Ok-false.field-0-test in
    line_ok g.L.LogDevice.written g.L.LogDevice.kept g.W.Write.contents log out st lag (g.P.PointFiles.holds first) (g.P.PointFiles.holds c.serve_line.new.points) text (reader_remaining g.R.Read.remaining c.serve_line.new.input) c.serve_line.new.service c.serve_line.result false is (c.serve_line.ensures log out text st lag first (c.loop.invariant log out text st lag first serving))

pub returns-in-Err-clause-served : goal.returns-in-Err-clause-served
returns-in-Err-clause-served g c = λ log out text st lag first serving.
    line_err g.L.LogDevice.written g.L.LogDevice.kept g.W.Write.contents log out st lag (g.P.PointFiles.holds first) (g.P.PointFiles.holds c.serve_line.new.points) text (reader_remaining g.R.Read.remaining c.serve_line.new.input) c.serve_line.new.service c.serve_line.result c.in-Err.why c.in-Err.is (c.serve_line.ensures log out text st lag first (c.loop.invariant log out text st lag first serving))

pub loop-preserved : goal.loop-preserved
loop-preserved g c = λ log out text st lag first serving.
    let is : c.serve_line.result ≡ Ok true = c.in-Ok-true.is ∙ ap Ok c.in-Ok-true.field-0-test in
    line_ok g.L.LogDevice.written g.L.LogDevice.kept g.W.Write.contents log out st lag (g.P.PointFiles.holds first) (g.P.PointFiles.holds c.serve_line.new.points) text (reader_remaining g.R.Read.remaining c.serve_line.new.input) c.serve_line.new.service c.serve_line.result true is (c.serve_line.ensures log out text st lag first (c.loop.invariant log out text st lag first serving))

pub returns-clause-served : goal.returns-clause-served
returns-clause-served g c = λ log out text st lag first serving.
    serves_end g.L.LogDevice.written g.L.LogDevice.kept g.W.Write.contents log out st lag (g.P.PointFiles.holds first) (g.P.PointFiles.holds c.loop.points) text (reader_remaining g.R.Read.remaining c.loop.input) c.loop.service (c.loop.invariant log out text st lag first serving)

pub returns-then-is_filled-clause-served : goal.returns-then-is_filled-clause-served
returns-then-is_filled-clause-served g c = λ log out text st lag first serving. c.loop.invariant log out text st lag first serving

use Rattle.std.specs.Io.Buffered.{reader_remaining}
use Rattle.pc_server.proofs.ServingLaws.{all_sent, last_cut, lines_ok}
use Rattle.pc_server.proofs.serve.serve_input.Goals as goal

pub send_all-requires : goal.send_all-requires
send_all-requires g c =
    let (log, out, text, st, lag, first, serves) = c.requires in
    let (files, lines, firsts, serving, all, only, stops) = lines_ok g.L.LogDevice.written g.L.LogDevice.kept g.W.Write.contents log out st lag (g.P.PointFiles.holds first) (g.P.PointFiles.holds c.serve_lines.new.points) text (reader_remaining g.R.Read.remaining c.serve_lines.new.input) c.serve_lines.new.service c.serve_lines.result c.in-Ok.stopped c.in-Ok.is (c.serve_lines.ensures.served log out text st lag first serves) in
    (log, out, st, lag, lines, files, serving)

pub returns-in-Ok-send_all-clause-served : goal.returns-in-Ok-send_all-clause-served
returns-in-Ok-send_all-clause-served g c = λ log out text st lag first serves.
    let (files, lines, firsts, serving, all, only, stops) = lines_ok g.L.LogDevice.written g.L.LogDevice.kept g.W.Write.contents log out st lag (g.P.PointFiles.holds first) (g.P.PointFiles.holds c.serve_lines.new.points) text (reader_remaining g.R.Read.remaining c.serve_lines.new.input) c.serve_lines.new.service c.serve_lines.result c.in-Ok.stopped c.in-Ok.is (c.serve_lines.ensures.served log out text st lag first serves) in
    all_sent g.L.LogDevice.written g.L.LogDevice.kept g.W.Write.contents log out st lag (g.P.PointFiles.holds first) (g.P.PointFiles.holds c.serve_lines.new.points) text (reader_remaining g.R.Read.remaining c.serve_lines.new.input) lines files c.send_all.new.service c.send_all.result c.in-Ok.stopped tt c.in-Ok-send_all.is all only stops (c.send_all.ensures.sent log out st lag lines files serving)

pub returns-in-Err-send_all-clause-served : goal.returns-in-Err-send_all-clause-served
returns-in-Err-send_all-clause-served g c = λ log out text st lag first serves.
    let (files, lines, firsts, serving, all, only, stops) = lines_ok g.L.LogDevice.written g.L.LogDevice.kept g.W.Write.contents log out st lag (g.P.PointFiles.holds first) (g.P.PointFiles.holds c.serve_lines.new.points) text (reader_remaining g.R.Read.remaining c.serve_lines.new.input) c.serve_lines.new.service c.serve_lines.result c.in-Ok.stopped c.in-Ok.is (c.serve_lines.ensures.served log out text st lag first serves) in
    last_cut g.L.LogDevice.written g.L.LogDevice.kept g.W.Write.contents log out st lag (g.P.PointFiles.holds first) (g.P.PointFiles.holds c.serve_lines.new.points) text (reader_remaining g.R.Read.remaining c.serve_lines.new.input) lines files c.send_all.new.service c.send_all.result c.in-Err-send_all.why c.in-Err-send_all.is firsts only (c.send_all.ensures.sent log out st lag lines files serving)

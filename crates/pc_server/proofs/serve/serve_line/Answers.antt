use Rattle.std.specs.Io.Buffered.{reader_remaining}
use Rattle.pc_server.proofs.ServingLaws.{err_of, first_lines, ok_of}
use Rattle.pc_server.proofs.serve.serve_line.Goals as goal

pub send_if_idle-requires : goal.send_if_idle-requires
send_if_idle-requires g c =
    let (log, out, text, st, lag, first, (files, (lines, read, serving), all, only)) = c.requires in
    (log, out, st, lag, lines, files, serving)

pub returns-in-Ok : goal.returns-in-Ok
returns-in-Ok g c = λ log out text st lag first (files, (lines, read, serving), all, only).
    c.serve_next.ensures log out text st lag first (files, (lines, read, ok_of g.L.LogDevice.written g.L.LogDevice.kept g.W.Write.contents log out st lag files lines lines c.send_if_idle.new.service c.send_if_idle.result c.in-Ok.field-0 c.in-Ok.is (c.send_if_idle.ensures log out st lag lines files serving)), all, only)

pub returns-in-Err : goal.returns-in-Err
returns-in-Err g c = λ log out text st lag first (files, (lines, read, serving), all, only). (
  files,
  (lines, first_lines text (reader_remaining g.R.Read.remaining c.args.input.now) lines read, err_of g.L.LogDevice.written g.L.LogDevice.kept g.W.Write.contents log out st lag files lines lines c.send_if_idle.new.service c.send_if_idle.result c.in-Err.why c.in-Err.is (c.send_if_idle.ensures log out st lag lines files serving)),
  only,
)

use Rattle.std.proofs.Common.{true, false, ap, subst, sym, ◌≡◌, ◌++◌, ◌∷◌, [], ◌∙◌}
use Rattle.std.specs.Prelude.{Ok}
use Rattle.std.specs.Io.Buffered.{reader_remaining}
use Rattle.pc_server.specs.Inputs.{IsInputRead}
use Rattle.pc_server.proofs.ServingLaws.{input_ended, next_served, read_more, read_none, serves_end}
use Rattle.pc_server.proofs.serve.serve_next.Goals as goal

pub returns-in-Ok-true : goal.returns-in-Ok-true
returns-in-Ok-true g c = λ log out text st lag first (files, (lines, read, serving), all, only).
    let is : c.read_next.result ≡ Ok true = c.in-Ok-true.is ∙ ap Ok c.in-Ok-true.field-0-test in
    let more = read_more text (reader_remaining g.R.Read.remaining c.args.input.now) (reader_remaining g.R.Read.remaining c.read_next.new.input) c.read_next.new.line.items lines c.read_next.result is (c.read_next.ensures.read text lines read) in
    let here = subst (λ line. IsInputRead text (reader_remaining g.R.Read.remaining c.read_next.new.input) (lines ++ line ∷ [])) (sym c.deref.ensures.value) more in
    next_served g.L.LogDevice.written g.L.LogDevice.kept g.W.Write.contents log out st lag (g.P.PointFiles.holds first) (g.P.PointFiles.holds c.take_turns.new.points) text (reader_remaining g.R.Read.remaining c.read_next.new.input) lines c.deref.result.now c.take_turns.new.service c.take_turns.result here c.take_turns.ensures.asks
    (c.take_turns.ensures.served log out st lag lines first (files, serving, all, only))

pub returns-in-Ok-false : goal.returns-in-Ok-false
returns-in-Ok-false g c = λ log out text st lag first (files, (lines, read, serving), all, only).
    let is : c.read_next.result ≡ Ok false = c.in-Ok-false.is ∙ ap Ok c.in-Ok-false.field-0-test in
    let none = read_none text (reader_remaining g.R.Read.remaining c.args.input.now) (reader_remaining g.R.Read.remaining c.read_next.new.input) c.read_next.new.line.items lines c.read_next.result is (c.read_next.ensures.read text lines read) in
    input_ended g.L.LogDevice.written g.L.LogDevice.kept g.W.Write.contents log out st lag (g.P.PointFiles.holds first) (g.P.PointFiles.holds c.args.points.now) text (reader_remaining g.R.Read.remaining c.read_next.new.input) lines c.args.service.now none (files, serving, all, only)

pub returns-in-Err : goal.returns-in-Err
returns-in-Err g c = λ log out text st lag first serves. serves_end g.L.LogDevice.written g.L.LogDevice.kept g.W.Write.contents log out st lag (g.P.PointFiles.holds first) (g.P.PointFiles.holds c.args.points.now) text (reader_remaining g.R.Read.remaining c.args.input.now) c.args.service.now serves

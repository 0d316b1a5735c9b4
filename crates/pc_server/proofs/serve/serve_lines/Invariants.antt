use Rattle.std.specs.Prelude.{ℕ, List, Option}
use Rattle.std.specs.Io.Buffered.{reader_remaining}
use Rattle.pc_model.specs.Replies.{Setting}
use Rattle.pc_server.specs.Files.{WithFiles}
use Rattle.pc_server.specs.Inputs.{ServesOn}
use Rattle.pc_server.proofs.serve.serve_lines.Given as goal

abbrev pub invariant-loop : goal.invariant-loop
invariant-loop g l =
    (log out text : Option (List ℕ)) (st : Setting) (lag : ℕ) (first : g.row.P.Denot) → WithFiles (g.P.PointFiles.holds first) (g.P.PointFiles.holds l.initial.points) (λ files. ServesOn g.L.LogDevice.written g.L.LogDevice.kept g.W.Write.contents log out text st lag (reader_remaining g.R.Read.remaining l.initial.input) files l.initial.service)
    → WithFiles (g.P.PointFiles.holds first) (g.P.PointFiles.holds l.points) (λ files. ServesOn g.L.LogDevice.written g.L.LogDevice.kept g.W.Write.contents log out text st lag (reader_remaining g.R.Read.remaining l.input) files l.service)

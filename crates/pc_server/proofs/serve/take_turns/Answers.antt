use Rattle.std.proofs.Common.{◌++◌, ◌∷◌, []}
use Rattle.pc_io.specs.Tallies.{inner_of}
use Rattle.pc_server.proofs.ServingLaws.{err_of, within_more}
use Rattle.pc_server.proofs.serve.take_turns.Goals as goal

pub returns-in-Err-clause-served : goal.returns-in-Err-clause-served
returns-in-Err-clause-served g c = λ log out st lag lines first (files, serving, all, only). (
  files,
  within_more g.L.LogDevice.written g.L.LogDevice.kept g.W.Write.contents log out st lag files lines (c.args.line.now ∷ []) c.answer_line.new.service.log (inner_of c.answer_line.new.service.out)
      (err_of g.L.LogDevice.written g.L.LogDevice.kept g.W.Write.contents log out st lag files (lines ++ c.args.line.now ∷ []) lines c.answer_line.new.service c.answer_line.result c.in-Err.why c.in-Err.is (c.answer_line.ensures.served log out st lag lines files serving)),
  only,
)

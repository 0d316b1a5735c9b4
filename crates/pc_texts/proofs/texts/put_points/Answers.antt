use Rattle.std.proofs.lemmas.Result.{err_from_is_err_and}
use Rattle.pc_io.proofs.PutsLaws.{puts_then, puts_stop}
use Rattle.pc_model.specs.Ranges.{ranges_of}
use Rattle.pc_texts.specs.Texts.{ranges_text}
use Rattle.pc_texts.proofs.texts.put_points.Goals as goal

pub returns : goal.returns
returns g c = puts_then g.W.Write.contents c.args.out.now c.put.new.self c.put_ranges.new.out c.put_ranges.result c.args.word.now (ranges_text (ranges_of c.args.points.now)) c.in_ok-put.ensures c.put_ranges.ensures

pub returns-in_err-put : goal.returns-in_err-put
returns-in_err-put g c =
    let p = err_from_is_err_and c.from_residual.result c.from_residual.ensures.1 in
    rw (p.1, p.2) (puts_stop g.W.Write.contents c.args.out.now c.put.new.self _ c.args.word.now (ranges_text (ranges_of c.args.points.now)) c.in_err-put.ensures)

use Rattle.std.proofs.Common.{◌++◌, codes, decimal}
use Rattle.std.proofs.lemmas.Result.{err_from_is_err_and}
use Rattle.pc_io.proofs.PutsLaws.{puts_then, puts_stop}
use Rattle.pc_model.specs.Ranges.{ranges_of}
use Rattle.pc_texts.specs.Texts.{ranges_text}
use Rattle.pc_texts.proofs.texts.put_file_line.Goals as goal

pub returns-in_err-put_points : goal.returns-in_err-put_points
returns-in_err-put_points g c =
    let p = err_from_is_err_and c.from_residual.result c.from_residual.ensures.1 in
    let start = c.args.word.now ++ ranges_text (ranges_of c.args.points.now) in
    let end = codes " entries " ++ (decimal c.args.entries ++ codes "\n") in
    rw (p.1, p.2) (puts_stop g.W.Write.contents c.args.out.now c.put_points.new.out _ start end c.in_err-put_points.ensures)

pub returns : goal.returns
returns g c =
    let start = c.args.word.now ++ ranges_text (ranges_of c.args.points.now) in
    let end = codes " entries " ++ (decimal c.args.entries ++ codes "\n") in
    puts_then g.W.Write.contents c.args.out.now c.put_points.new.out c.put_entries.new.out c.put_entries.result start end c.in_ok-put_points.ensures c.put_entries.ensures

use Rattle.std.proofs.Common.{◌++◌, codes, decimal, Err}
use Rattle.std.proofs.lemmas.Result.{err_from_is_err_and}
use Rattle.pc_io.proofs.PutsLaws.{puts_then, puts_stop}
use Rattle.pc_model.specs.Ranges.{ranges_of}
use Rattle.pc_texts.specs.Texts.{ranges_text}
use Rattle.pc_texts.proofs.texts.put_file.Goals as goal

pub returns-in_err-put_number : goal.returns-in_err-put_number
returns-in_err-put_number g c =
    let p = err_from_is_err_and c.from_residual.result c.from_residual.ensures.1 in
    let start = codes "file " ++ decimal c.args.file in
    let middle = codes " points " ++ ranges_text (ranges_of c.args.points.now) in
    let end = codes " entries " ++ decimal c.args.entries in
    rw (p.1, p.2) (puts_stop g.W.Write.contents c.args.out.now c.put_number.new.out _ start (middle ++ end) c.in_err-put_number.ensures)

pub returns-in_err-put_points : goal.returns-in_err-put_points
returns-in_err-put_points g c =
    let p = err_from_is_err_and c.from_residual-in_err-put_points.result c.from_residual-in_err-put_points.ensures.1 in
    let start = codes "file " ++ decimal c.args.file in
    let middle = codes " points " ++ ranges_text (ranges_of c.args.points.now) in
    let end = codes " entries " ++ decimal c.args.entries in
    rw (p.1, p.2) (puts_then g.W.Write.contents c.args.out.now c.put_number.new.out c.put_points.new.out (Err c.in_err-put_points.field-0.0) start (middle ++ end) c.in_ok-put_number.ensures
    (puts_stop g.W.Write.contents c.put_number.new.out c.put_points.new.out _ middle end c.in_err-put_points.ensures))

pub returns : goal.returns
returns g c =
    let start = codes "file " ++ decimal c.args.file in
    let middle = codes " points " ++ ranges_text (ranges_of c.args.points.now) in
    let end = codes " entries " ++ decimal c.args.entries in
    puts_then g.W.Write.contents c.args.out.now c.put_number.new.out c.put_number-2.new.out _ start (middle ++ end) c.in_ok-put_number.ensures
    (puts_then g.W.Write.contents c.put_number.new.out c.put_points.new.out c.put_number-2.new.out _ middle end c.in_ok-put_points.ensures c.put_number-2.ensures)

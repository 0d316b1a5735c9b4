use Rattle.std.proofs.Common.{◌++◌, codes, decimal}
use Rattle.std.proofs.lemmas.Result.{err_from_is_err_and}
use Rattle.pc_io.proofs.PutsLaws.{puts_then, puts_stop}
use Rattle.pc_texts.specs.Texts.{printed_name}
use Rattle.pc_reasons.proofs.told_lines.put_place.Goals as goal

pub returns-in_err-put_name : goal.returns-in_err-put_name
returns-in_err-put_name g c =
    let p = err_from_is_err_and c.from_residual.result c.from_residual.ensures.1 in
    rw (p.1, p.2) (puts_stop g.W.Write.contents c.args.out.now c.put_name.new.out _ (printed_name c.args.name.now) (codes ":" ++ (decimal c.args.number ++ codes ": ")) c.in_err-put_name.ensures)

pub returns : goal.returns
returns g c =
    puts_then g.W.Write.contents c.args.out.now c.put_name.new.out c.put_number.new.out c.put_number.result (printed_name c.args.name.now) (codes ":" ++ (decimal c.args.number ++ codes ": ")) c.in_ok-put_name.ensures c.put_number.ensures

use Rattle.std.proofs.Common.{◌++◌, codes}
use Rattle.std.proofs.lemmas.Result.{err_from_is_err_and}
use Rattle.pc_io.proofs.PutsLaws.{puts_then, puts_stop}
use Rattle.pc_texts.specs.Texts.{printed, printed_key}
use Rattle.pc_texts.proofs.texts.put_pair.Goals as goal

pub returns-in_err-put_two : goal.returns-in_err-put_two
returns-in_err-put_two g c =
    let p = err_from_is_err_and c.from_residual.result c.from_residual.ensures.1 in
    rw (p.1, p.2) (puts_stop g.W.Write.contents c.args.out.now c.put_two.new.out _ (printed_key c.args.pair.now.0 ++ (codes " " ++ printed c.args.pair.now.1)) (codes "\n") c.in_err-put_two.ensures)

pub returns : goal.returns
returns g c =
    puts_then g.W.Write.contents c.args.out.now c.put_two.new.out c.put.new.self c.put.result (printed_key c.args.pair.now.0 ++ (codes " " ++ printed c.args.pair.now.1)) (codes "\n") c.in_ok-put_two.ensures c.put.ensures

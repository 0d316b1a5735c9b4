use Rattle.std.proofs.Common.{◌++◌, codes}
use Rattle.std.proofs.lemmas.Result.{err_from_is_err_and}
use Rattle.std.specs.Fmt.{signed_decimal}
use Rattle.pc_texts.specs.Texts.{printed_key}
use Rattle.pc_io.proofs.PutsLaws.{puts_then, puts_stop}
use Rattle.pc_log_lines.proofs.lines.put_add.Goals as goal

pub returns-in_err-put_verb : goal.returns-in_err-put_verb
returns-in_err-put_verb g c =
    let p = err_from_is_err_and c.from_residual.result c.from_residual.ensures.1 in
    rw (p.1, p.2) (puts_stop g.W.Write.contents c.args.out.now c.put_verb.new.out _ (codes "add " ++ printed_key c.args.key.now) (codes " " ++ signed_decimal c.args.number.now) c.in_err-put_verb.ensures)

pub returns : goal.returns
returns g c = puts_then g.W.Write.contents c.args.out.now c.put_verb.new.out c.put_number.new.out c.put_number.result (codes "add " ++ printed_key c.args.key.now) (codes " " ++ signed_decimal c.args.number.now) c.in_ok-put_verb.ensures c.put_number.ensures

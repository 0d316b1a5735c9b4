use Rattle.std.proofs.Common.{◌++◌, codes}
use Rattle.std.proofs.lemmas.Result.{err_from_is_err_and}
use Rattle.pc_io.proofs.PutsLaws.{puts_then, puts_stop}
use Rattle.pc_texts.specs.Texts.{printed, printed_key}
use Rattle.pc_texts.proofs.texts.put_two.Goals as goal

pub returns-in_err-put_key : goal.returns-in_err-put_key
returns-in_err-put_key g c =
    let p = err_from_is_err_and c.from_residual.result c.from_residual.ensures.1 in
    rw (p.1, p.2) (puts_stop g.W.Write.contents c.args.out.now c.put_key.new.out _ (printed_key c.args.key.now) (codes " " ++ printed c.args.value.now) c.in_err-put_key.ensures)

pub returns : goal.returns
returns g c =
    puts_then g.W.Write.contents c.args.out.now c.put_key.new.out c.put_named.new.out c.put_named.result (printed_key c.args.key.now) (codes " " ++ printed c.args.value.now) c.in_ok-put_key.ensures (rw c.as_bytes.ensures.bytes at c.put_named.ensures)

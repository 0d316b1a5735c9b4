use Rattle.std.proofs.lemmas.Result.{err_from_is_err_and}
use Rattle.std.proofs.Common.{◌++◌, codes}
use Rattle.pc_io.proofs.PutsLaws.{puts_then, puts_stop}
use Rattle.pc_texts.specs.Texts.{printed, printed_key, printed_value}
use Rattle.pc_texts.proofs.texts.put_entry.Goals as goal

pub returns-in_err-put_key : goal.returns-in_err-put_key
returns-in_err-put_key g c =
    let p = err_from_is_err_and c.from_residual.result c.from_residual.ensures.1 in
    rw (p.1, p.2) (puts_stop g.W.Write.contents c.args.out.now c.put_key.new.out _ (printed_key c.args.key.now) (codes " " ++ printed_value c.args.value.now) c.in_err-put_key.ensures)

pub returns-in-None : goal.returns-in-None
returns-in-None g c =
    rw c.in-None.is (puts_then g.W.Write.contents c.args.out.now c.put_key.new.out c.put.new.self c.put.result (printed_key c.args.key.now) (codes " tombstone") c.in_ok-put_key.ensures c.put.ensures)

pub returns-in-Some : goal.returns-in-Some
returns-in-Some g c =
    let p = rw c.as_bytes.ensures.bytes at c.put_named.ensures in
    rw c.in-Some.is (puts_then g.W.Write.contents c.args.out.now c.put_key.new.out c.put_named.new.out c.put_named.result (printed_key c.args.key.now) (codes " " ++ printed c.in-Some.value) c.in_ok-put_key.ensures p)

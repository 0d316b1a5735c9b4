use Rattle.std.proofs.lemmas.Result.{err_from_is_err_and}
use Rattle.pc_types.specs.Keys.{space_of, own_bytes}
use Rattle.pc_io.proofs.PutsLaws.{puts_then, puts_stop}
use Rattle.pc_texts.specs.Texts.{printed, printed_space}
use Rattle.pc_texts.proofs.texts.put_key.Goals as goal

pub returns-in_err-put_space : goal.returns-in_err-put_space
returns-in_err-put_space g c =
    let p = err_from_is_err_and c.from_residual.result c.from_residual.ensures.1 in
    rw (p.1, p.2) (puts_stop g.W.Write.contents c.args.out.now c.put_space.new.out _ (printed_space (space_of c.args.key.now)) (printed (own_bytes c.args.key.now)) (rw c.space.ensures at c.in_err-put_space.ensures))

pub returns : goal.returns
returns g c =
    puts_then g.W.Write.contents c.args.out.now c.put_space.new.out c.put_printed.new.out c.put_printed.result (printed_space (space_of c.args.key.now)) (printed (own_bytes c.args.key.now)) (rw c.space.ensures at c.in_ok-put_space.ensures) (rw c.own_bytes.ensures.bytes at c.put_printed.ensures)

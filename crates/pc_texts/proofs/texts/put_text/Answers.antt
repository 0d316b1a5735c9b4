use Rattle.std.proofs.Common.{◌++◌, codes}
use Rattle.std.proofs.lemmas.Result.{err_from_is_err_and}
use Rattle.pc_io.proofs.PutsLaws.{puts_then, puts_stop}
use Rattle.std.specs.List.{flat_map}
use Rattle.pc_texts.specs.Texts.{hex_byte}
use Rattle.pc_texts.proofs.texts.put_text.Goals as goal

pub returns-in_err-put_hex_words : goal.returns-in_err-put_hex_words
returns-in_err-put_hex_words g c =
    let p = err_from_is_err_and c.from_residual.result c.from_residual.ensures.1 in
    rw (p.1, p.2) (puts_stop g.W.Write.contents c.args.out.now c.put_hex_words.new.out _ (codes "text " ++ flat_map hex_byte c.args.bytes.now) (codes "\n") c.in_err-put_hex_words.ensures)

pub returns : goal.returns
returns g c =
    puts_then g.W.Write.contents c.args.out.now c.put_hex_words.new.out c.put.new.self c.put.result (codes "text " ++ flat_map hex_byte c.args.bytes.now) (codes "\n") c.in_ok-put_hex_words.ensures c.put.ensures

use Rattle.std.proofs.Common.{codes}
use Rattle.std.proofs.lemmas.Result.{err_from_is_err_and}
use Rattle.pc_io.proofs.PutsLaws.{puts_then, puts_stop}
use Rattle.std.specs.List.{flat_map}
use Rattle.pc_texts.specs.Texts.{pair_text}
use Rattle.pc_texts.proofs.texts.put_state_pairs.Goals as goal

pub returns-in_err-put : goal.returns-in_err-put
returns-in_err-put g c =
    let p = err_from_is_err_and c.from_residual.result c.from_residual.ensures.1 in
    rw (p.1, p.2) (puts_stop g.W.Write.contents c.args.out.now c.put.new.self _ (codes "\n") (flat_map pair_text c.args.pairs.now) c.in_err-put.ensures)

pub returns : goal.returns
returns g c =
    puts_then g.W.Write.contents c.args.out.now c.put.new.self c.put_pairs.new.out c.put_pairs.result (codes "\n") (flat_map pair_text c.args.pairs.now) c.in_ok-put.ensures c.put_pairs.ensures

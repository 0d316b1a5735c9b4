use Rattle.std.proofs.lemmas.Result.{err_from_is_err_and}
use Rattle.pc_texts.specs.Texts.{joined_line}
use Rattle.pc_io.proofs.PutsLaws.{puts_then, puts_stop}
use Rattle.pc_verify.specs.Lines.{head_words}
use Rattle.pc_verify.proofs.lines.put_part.Goals as goal

pub returns-in_err-put_head : goal.returns-in_err-put_head
returns-in_err-put_head g c =
    let p = err_from_is_err_and c.from_residual.result c.from_residual.ensures.1 in
    rw (p.1, p.2) (puts_stop g.W.Write.contents c.args.out.now c.put_head.new.out _ (head_words c.args.head.now) (joined_line c.args.points.now c.args.entries) c.in_err-put_head.ensures)

pub returns : goal.returns
returns g c = puts_then g.W.Write.contents c.args.out.now c.put_head.new.out c.put_joined.new.out c.put_joined.result (head_words c.args.head.now) (joined_line c.args.points.now c.args.entries) c.in_ok-put_head.ensures c.put_joined.ensures

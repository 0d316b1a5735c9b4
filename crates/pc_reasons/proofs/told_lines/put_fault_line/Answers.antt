use Rattle.std.proofs.Common.{codes}
use Rattle.std.proofs.lemmas.Result.{err_from_is_err_and}
use Rattle.pc_io.proofs.PutsLaws.{puts_then, puts_stop}
use Rattle.pc_reasons.specs.Sentences.{fault_sentence}
use Rattle.pc_reasons.proofs.told_lines.put_fault_line.Goals as goal

pub returns-in_err-put : goal.returns-in_err-put
returns-in_err-put g c =
    let p = err_from_is_err_and c.from_residual.result c.from_residual.ensures.1 in
    rw (p.1, p.2) (puts_stop g.W.Write.contents c.args.out.now c.put.new.out _ (fault_sentence c.args.fault) (codes "\n") c.in_err-put.ensures)

pub returns : goal.returns
returns g c =
    puts_then g.W.Write.contents c.args.out.now c.put.new.out c.put-2.new.self c.put-2.result (fault_sentence c.args.fault) (codes "\n") c.in_ok-put.ensures c.put-2.ensures

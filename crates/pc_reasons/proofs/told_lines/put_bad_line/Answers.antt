use Rattle.std.proofs.Common.{◌++◌, codes}
use Rattle.std.proofs.lemmas.Result.{err_from_is_err_and}
use Rattle.pc_io.proofs.PutsLaws.{puts_then, puts_stop}
use Rattle.pc_reasons.specs.Told.{place_text}
use Rattle.pc_reasons.specs.Sentences.{fault_sentence}
use Rattle.pc_reasons.proofs.told_lines.put_bad_line.Goals as goal

pub returns-in_err-put_place : goal.returns-in_err-put_place
returns-in_err-put_place g c =
    let p = err_from_is_err_and c.from_residual.result c.from_residual.ensures.1 in
    rw (p.1, p.2) (puts_stop g.W.Write.contents c.args.out.now c.put_place.new.out _ (place_text c.args.name.now c.args.line.now.number) (fault_sentence c.args.line.now.fault ++ codes "\n") c.in_err-put_place.ensures)

pub returns : goal.returns
returns g c =
    puts_then g.W.Write.contents c.args.out.now c.put_place.new.out c.put_fault_line.new.out c.put_fault_line.result (place_text c.args.name.now c.args.line.now.number) (fault_sentence c.args.line.now.fault ++ codes "\n") c.in_ok-put_place.ensures c.put_fault_line.ensures

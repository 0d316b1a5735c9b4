use Rattle.std.proofs.Common.{◌++◌, codes}
use Rattle.std.proofs.lemmas.Result.{err_from_is_err_and}
use Rattle.pc_io.proofs.PutsLaws.{puts_then, puts_stop}
use Rattle.pc_reasons.specs.Told.{place_text}
use Rattle.pc_reasons.specs.Workloads.{workload_sentence}
use Rattle.pc_reasons.proofs.workloads.put_workload_fault.Goals as goal

pub returns-in_err-put_place : goal.returns-in_err-put_place
returns-in_err-put_place g c =
    let p = err_from_is_err_and c.from_residual.result c.from_residual.ensures.1 in
    rw (p.1, p.2) (puts_stop g.W.Write.contents c.args.out.now c.put_place.new.out _ (place_text c.args.name.now c.args.number) (workload_sentence c.args.fault ++ codes "\n") c.in_err-put_place.ensures)

pub returns : goal.returns
returns g c =
    puts_then g.W.Write.contents c.args.out.now c.put_place.new.out c.put_reason_line.new.out c.put_reason_line.result (place_text c.args.name.now c.args.number) (workload_sentence c.args.fault ++ codes "\n") c.in_ok-put_place.ensures c.put_reason_line.ensures

use Rattle.std.proofs.lemmas.Result.{err_from_is_err_and}
use Rattle.pc_io.proofs.PutsLaws.{puts_then, puts_stop}
use Rattle.std.proofs.Common.{◌-◌, length, take}
use Rattle.std.specs.List.{flat_map}
use Rattle.pc_reasons.specs.declared.told_lines.TheConstants.{MOST_TOLD}
use Rattle.pc_reasons.specs.Told.{bad_line_text, more_text}
use Rattle.pc_reasons.proofs.told_lines.put_first.Goals as goal

pub returns-in_err-put_each : goal.returns-in_err-put_each
returns-in_err-put_each g c =
    let p = err_from_is_err_and c.from_residual.result c.from_residual.ensures.1 in
    rw (p.1, p.2) (puts_stop g.W.Write.contents c.args.out.now c.put_each.new.out _ (flat_map (bad_line_text c.args.name.now) (take MOST_TOLD c.args.bad.now)) (more_text c.args.name.now (length c.args.bad.now - MOST_TOLD)) c.in_err-put_each.ensures)

pub returns : goal.returns
returns g c =
    puts_then g.W.Write.contents c.args.out.now c.put_each.new.out c.put_more.new.out c.put_more.result (flat_map (bad_line_text c.args.name.now) (take MOST_TOLD c.args.bad.now)) (more_text c.args.name.now (length c.args.bad.now - MOST_TOLD)) c.in_ok-put_each.ensures c.put_more.ensures

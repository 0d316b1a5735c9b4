use Rattle.std.proofs.Common.{subst, ◌∙◌}
use Rattle.pc_io.specs.Counted.{AppendsBeginning}
use Rattle.pc_log_lines.specs.Lines.{log_lines}
use Rattle.pc_log_lines.proofs.Printed.{ended_begun, ended_failed, lost_as}
use Rattle.pc_log_lines.proofs.run.print_log.Goals as goal

pub returns-clause-cause : goal.returns-clause-cause
returns-clause-cause g c =
    let contents = g.W.Write.contents in
    let put = c.put_log-put.ensures in
    let text = log_lines c.args.range c.deref.result.now in
    lost_as g.R.Read.remaining contents c.args.opened c.args.range c.args.out.now c.end_output.new.out c.lost_by.result c.in-Err.why c.lost_by.ensures c.in_ok-bytes.ensures.opened
    (λ bytes holds.
    subst (λ bs. AppendsBeginning (contents c.args.out.now.inner) (contents c.end_output.new.out.inner) (log_lines c.args.range bs)) (c.deref.ensures.value ∙ c.in_ok-bytes.ensures.held bytes holds)
    (ended_begun contents c.args.out.now c.put_log-put.new.out c.end_output.new.out text c.put_log-put.result put.all put.part c.in-Err.ensures.stays))
    (ended_failed contents c.args.out.now c.put_log-put.new.out c.end_output.new.out text c.put_log-put.result c.in-Err.why put.all put.part c.in-Err.ensures.unprinted)

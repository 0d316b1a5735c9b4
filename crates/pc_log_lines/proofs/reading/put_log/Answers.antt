use Rattle.std.proofs.Common.{length}
use Rattle.pc_log.specs.Reading.{log_at}
use Rattle.pc_log_lines.specs.Lines.{entry_lines, rest_line}
use Rattle.pc_log_lines.proofs.Printed.{cut_after}
use Rattle.pc_log_lines.proofs.reading.put_log.Goals as goal

pub returns-clause-part : goal.returns-clause-part
returns-clause-part g c =
    let rest = c.in_ok-rest.rest in
    rw (← c.in_ok-rest.ensures.rest)
    (cut_after g.W.Write.contents c.args.out.now c.put_entries.new.out c.put_rest.new.out c.put_rest.result (entry_lines c.args.range (log_at c.args.bytes.now)) (rest_line (length c.args.bytes.now) rest.bytes rest.fault) c.in_ok-rest.ensures.all c.put_rest.ensures.part)

use Rattle.std.proofs.Common.{codes}
use Rattle.pc_io.proofs.PutsLaws.{puts_then}
use Rattle.pc_texts.specs.Texts.{refusal_text}
use Rattle.pc_restore.proofs.reports.put_reason_end.Goals as goal

pub returns : goal.returns
returns g c =
    puts_then g.W.Write.contents c.args.out.now c.put_reason.new.out c.put.new.self c.put.result (refusal_text c.args.reason) (codes "\n") c.in_ok-put_reason.ensures c.put.ensures

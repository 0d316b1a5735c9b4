use Rattle.std.proofs.Common.{refl}
use Rattle.pc_texts.specs.Texts.{joined_line}
use Rattle.pc_texts.proofs.OutputLaws.{whole_printed, part_printed}
use Rattle.pc_collapse_files.proofs.output.print.Goals as goal

pub returns-in-Ok-clause-printed : goal.returns-in-Ok-clause-printed
returns-in-Ok-clause-printed g c =
    whole_printed g.W.Write.contents c.args.out.now c.put_joined-put.new.out c.end_output.new.out (joined_line c.args.points.now c.args.entries) c.put_joined-put.result c.put_joined-put.ensures c.in-Ok.ensures.stays c.in-Ok.ensures.printed

pub returns-in-Err-clause-failed : goal.returns-in-Err-clause-failed
returns-in-Err-clause-failed g c =
    let part = part_printed g.W.Write.contents c.args.out.now c.put_joined-put.new.out c.end_output.new.out (joined_line c.args.points.now c.args.entries) c.put_joined-put.result _ c.put_joined-put.ensures c.in-Err.ensures.stays c.in-Err.ensures.unprinted in (refl, part.0, part.1)

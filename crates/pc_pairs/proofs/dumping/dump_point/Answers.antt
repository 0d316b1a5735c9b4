use Rattle.pc_model.specs.Database.{database_of}
use Rattle.pc_pairs.proofs.PointDumpLaws.{point_unwritten}
use Rattle.pc_pairs.proofs.dumping.dump_point.Goals as goal

pub returns-in-Ok-clause-dumped : goal.returns-in-Ok-clause-dumped
returns-in-Ok-clause-dumped g c = λ e base names parts log holds.
    (database_of c.in-Ok-Some.pairs.items, (rw c.in-Ok-Some.field-0-is at (c.in-Ok-Some.ensures.state base names parts log holds)), c.in-Ok.ensures.whole.0)

pub returns-in-Err-put_chosen-clause-cause : goal.returns-in-Err-put_chosen-clause-cause
returns-in-Err-put_chosen-clause-cause g c =
    let part = c.in-Err-put_chosen.ensures.part in
    point_unwritten g.R.Read.remaining g.W.Write.contents c.args.folder c.args.point c.args.choice.now c.args.out.now c.put_chosen.new.out c.in-Err-put_chosen.why c.lost_by.result c.lost_by.ensures.memory c.lost_by.ensures.output part.1
    (λ base names parts log holds. (database_of c.in-Ok-Some.pairs.items, (rw c.in-Ok-Some.field-0-is at (c.in-Ok-Some.ensures.state base names parts log holds)), part.0))

use Rattle.std.proofs.lemmas.Result.{err_from_is_err_and}
use Rattle.pc_stream_join.proofs.WritingLaws.{no_room_to_end}
use Rattle.pc_stream_join.proofs.writer.PartWriter.end.Goals as goal

pub returns-in_err-in_memory : goal.returns-in_err-in_memory
returns-in_err-in_memory g c =
    let p = err_from_is_err_and c.from_residual.result c.from_residual.ensures.1 in
    rw (p.1, p.2, c.in_err-in_memory.ensures) (no_room_to_end g.W.Write.contents c.args.out.now c.args.self.kept c.args.self.count)

use Rattle.std.proofs.Common.{◌≡◌, ◌∙◌, arith}
use Rattle.pc_kept_log.proofs.LentEntryLaws.{token_there}
use Rattle.pc_kept_log.proofs.chunk.Chunk.token.Goals as goal

pub overflow_cast-result : goal.overflow_cast-result
overflow_cast-result c =
    let read = token_there c.args.self.now.entries c.args.place c.text-text.result.now c.text-text.ensures.lawful c.requires (rw c.len.ensures at c.text-text.ensures.text) c.if-text-ne-TOKEN.false in
    let point : c.from_be_bytes-point.result ≡ read.point = c.from_be_bytes-point.ensures ∙ read.spelled in
    omega (arith, point, read.last)

use Rattle.std.proofs.Common.{arith}
use Rattle.pc_stream_join.proofs.WritingLaws.{few_ranges}
use Rattle.pc_stream_join.proofs.writer.PartWriter.new.Goals as goal

pub overflow_cast-len : goal.overflow_cast-len
overflow_cast-len c = let few = few_ranges 1 c.args.header.now.ranges.items c.requires.1 in omega (arith, few)

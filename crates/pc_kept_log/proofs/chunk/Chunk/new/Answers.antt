use Rattle.pc_kept_log.proofs.ChunkLaws.{none_filled, none_in}
use Rattle.pc_kept_log.proofs.chunk.Chunk.new.Goals as goal

pub invariant_of-result : goal.invariant_of-result
invariant_of-result c = rw c.new-2.ensures.items (none_filled c.new.result.items)

pub returns-clause-none : goal.returns-clause-none
returns-clause-none c = none_in

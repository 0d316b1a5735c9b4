use Rattle.std.proofs.Common.{arith}
use Rattle.pc_kept_log.proofs.ChunkLaws.{none_filled, none_in, fresh_room}
use Rattle.pc_kept_log.proofs.chunk.Chunk.with_room.Goals as goal

pub invariant_of-result : goal.invariant_of-result
invariant_of-result c = rw c.in_ok-starts.ensures.items (none_filled c.in_ok-bytes.bytes.items)

pub returns-clause-none : goal.returns-clause-none
returns-clause-none c = none_in

pub returns-clause-room : goal.returns-clause-room
returns-clause-room c = fresh_room _ _ _ (omega (arith, c.in_ok-bytes.ensures.len, c.in_ok-bytes.bytes.ok.0, c.max-room.ensures)) (omega (arith, c.in_ok-starts.ensures.exact, c.in_ok-starts.ensures.len))

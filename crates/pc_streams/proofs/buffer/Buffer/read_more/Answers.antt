use Rattle.std.proofs.Common.{rules, ◌-◌, ◌++◌, length, take, drop}
use Rattle.pc_io.specs.Tallies.{inner_of}
use Rattle.pc_streams.proofs.ReadPieces.{keeps_read}
use Rattle.pc_streams.proofs.buffer.Buffer.read_more.Goals as goal

pub returns-in-Ok-clause-kept : goal.returns-in-Ok-clause-kept
returns-in-Ok-clause-kept g c =
    let b = c.self.inside in
    let all = c.deref_mut.result.now in
    let front = take b.filled all in
    let piece = c.read.new.buf in
    let tail = borrow.Rule.Slice.PartMut.post_of b.filled (length all - b.filled) all in
    keeps_read (g.R.Read.remaining (inner_of c.args.from.now)) (g.R.Read.remaining (inner_of c.read.new.self)) b.used b.filled c.in-Ok.count c.make_room.new.bytes.len b.bytes.items front piece
    tail (drop (length (front ++ (piece ++ tail))) c.make_room.new.bytes.items) c.args.self.now (search rules) (search rules) (search rules) (search rules) (search rules) (search rules) (search rules)

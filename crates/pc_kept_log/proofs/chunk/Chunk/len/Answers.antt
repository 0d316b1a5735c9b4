use Rattle.std.proofs.Common.{◌≡◌, length, take, ap, arith}
use Rattle.pc_log.specs.Plain.{entries_in}
use Rattle.pc_kept_log.specs.Chunks.{Piece}
use Rattle.pc_kept_log.proofs.ChunkLaws.{starts_count}
use Rattle.pc_kept_log.proofs.chunk.Chunk.len.Goals as goal

pub returns : goal.returns
returns c =
    let seen : length (entries_in (take c.self.inside.used c.self.inside.bytes.items)) ≡ length c.args.self.now.entries = ap (λ (p : Piece). length p.entries) c.self.view_is in
    omega (arith, seen, c.len.ensures, c.self.inside.starts.ok.0, starts_count c.self.inside.bytes.items c.self.inside.used c.self.inside.starts.items c.self.invariant)

use Rattle.std.proofs.Common.{◌≢◌, rules}
use Rattle.pc_types.specs.declared.refusal.Refusal.TheVariants.{OutOfMemory}
use Rattle.pc_kept_log.proofs.ChunkLaws.{read_at, never_else}
use Rattle.pc_kept_log.proofs.chunk.Chunk.entry.Goals as goal

pub unreachable-requires : goal.unreachable-requires
unreachable-requires c =
    let other : c.in-Err.why ≢ OutOfMemory = search rules in
    never_else c.args.self.now.entries c.text.result.now c.args.place c.in-Err.why c.text.ensures.lawful c.requires (rw c.len.ensures at c.text.ensures.text) (c.in-Err.ensures other)

pub unreachable-unreachable : goal.unreachable-unreachable
unreachable-unreachable c =
    let other : c.in-Err.why ≢ OutOfMemory = search rules in
    never_else c.args.self.now.entries c.text.result.now c.args.place c.in-Err.why c.text.ensures.lawful c.requires (rw c.len.ensures at c.text.ensures.text) (c.in-Err.ensures other)

pub returns : goal.returns
returns c = read_at c.args.self.now.entries c.text.result.now c.args.place c.in-Ok.entry _ c.text.ensures.lawful c.requires (rw c.len.ensures at c.text.ensures.text) c.in-Ok.ensures

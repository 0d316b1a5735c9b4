use Rattle.std.proofs.Common.{rules}
use Rattle.pc_io.proofs.KnownBytesLaws.{appends_more}
use Rattle.pc_io.proofs.tally.Tally.put.Goals as goal

pub loop-at-preserved : goal.loop-at-preserved
loop-at-preserved g c = record {
  within = search rules;
  sent = appends_more (g.W.Write.contents c.args.self.now.inner) _ _ c.loop-at.at c.in-Ok.n c.args.bytes.now c.loop-at.invariant.sent c.in-Ok.ensures.bytes;
  sound = search rules;
}

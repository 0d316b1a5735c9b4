use Rattle.std.proofs.Common.{◌≡◌, ◌<◌, [], take}
use Rattle.pc_part.specs.Parts.{AreRanges, points_of}
use Rattle.pc_stream_join.specs.Headers.{points_read}
use Rattle.pc_stream_join.proofs.headers.unite_all.Given as goal

-- the points of this many
abbrev pub invariant-loop-input : goal.invariant-loop-input
invariant-loop-input g l = record {
  none : l.input-index ≡ 0 → l.all.items ≡ [];
  apart : 0 < l.input-index → AreRanges l.all.items;
  points : points_of l.all.items ≡ points_read (take l.input-index l.inputs);
}

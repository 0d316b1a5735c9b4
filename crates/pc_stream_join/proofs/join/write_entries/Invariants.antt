use Rattle.std.proofs.Common.{◌≡◌, ◌≤◌, length}
use Rattle.pc_stream_join.specs.Steps.{Begun, IsJoining}
use Rattle.pc_stream_join.proofs.join.write_entries.Given as goal

-- a join that was on its way still is, this many entries later
abbrev pub invariant-loop : goal.invariant-loop
invariant-loop g l = record {
  together : length l.inputs ≡ length l.merge.firsts;
  joining : (begun : Begun g.row.R.Denot g.row.W.Denot) → IsJoining g.R.Read.remaining g.W.Write.contents begun l.fn.inputs l.fn.merge l.fn.writer l.fn.out
      → IsJoining g.R.Read.remaining g.W.Write.contents begun l.inputs l.merge l.writer l.out × (l.counter ≤ l.writer.count);
}

use Rattle.std.proofs.Common.{◌≡◌, ℕ, List, length}
use Rattle.pc_stream_join.specs.Headers.{AreReadTo, runs_seen}
use Rattle.pc_stream_join.proofs.headers.read_runs.Given as goal

-- this many are read
abbrev pub invariant-loop-place : goal.invariant-loop-place
invariant-loop-place g l = record {
  read : (runs : List ℕ) × AreReadTo g.R.Read.remaining l.place l.fn.inputs l.inputs runs × (l.seen ≡ runs_seen runs);
  many : length l.inputs ≡ length l.fn.inputs;
}

use Rattle.std.proofs.Common.{◌≡◌, ◌≤◌, true, false}
use Rattle.bench_steps.specs.Commits.{events_of}
use Rattle.bench_steps.proofs.commits.commit_all.Given as goal

abbrev pub invariant-loop-number : goal.invariant-loop-number
invariant-loop-number l = record {
  committed : l.committed ≡ l.number;
  points : l.rounds.has_points ≡ true → events_of l.asked ≡ l.number;
  none : l.rounds.has_points ≡ false → events_of l.asked ≡ 0;
  most : events_of l.asked ≤ l.number;
}

use Rattle.std.proofs.Common.{◌≡◌, [], take, drop}
use Rattle.pc_jobs.specs.Workloads.{first_bad}
use Rattle.pc_jobs.specs.Seeing.{seen_in_lines}
use Rattle.pc_jobs.proofs.workloads.first_bad.Given as goal

abbrev pub invariant-loop-index : goal.invariant-loop-index
invariant-loop-index l = record {
  seen : l.seen ≡ seen_in_lines (take l.index l.lines);
  left : first_bad (take l.index l.lines) (drop l.index l.lines) ≡ first_bad [] l.lines;
}

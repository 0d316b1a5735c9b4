use Rattle.std.proofs.Common.{◌≡◌, ◌++◌, map}
use Rattle.pc_jobs.specs.Phrases.{spelled_phrase}
use Rattle.pc_jobs.proofs.workloads.phrases_in.Given as goal

abbrev pub invariant-loop-line : goal.invariant-loop-line
invariant-loop-line l = l.phrases.items ++ map spelled_phrase l.line-iterator ≡ map spelled_phrase l.initial.line-iterator

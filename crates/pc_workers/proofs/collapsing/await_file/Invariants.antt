use Rattle.std.proofs.Common.{[]}
use Rattle.pc_workers.specs.Boards.{HasClaimed}
use Rattle.pc_workers.proofs.collapsing.await_file.Given as goal

-- nothing but looks so far
abbrev pub invariant-loop : goal.invariant-loop
invariant-loop g l = HasClaimed l.fn.pass l.pass []

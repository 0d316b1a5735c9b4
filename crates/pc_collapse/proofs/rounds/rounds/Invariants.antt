use Rattle.std.proofs.Common.{◌++◌}
use Rattle.pc_collapse.specs.Worth.{AreWorth}
use Rattle.pc_collapse.proofs.rounds.rounds.Given as goal

abbrev pub invariant-loop : goal.invariant-loop
invariant-loop g l = AreWorth (l.fn.parts ++ l.fn.own.items) l.left.items

use Rattle.std.proofs.Common.{◌++◌}
use Rattle.pc_collapse.proofs.bag.collapse_bag.Given as goal

abbrev pub ghosts-collapse : goal.ghosts-collapse
ghosts-collapse g a = record { parts = a.parts.now; files = a.parts.now ++ a.own.items }

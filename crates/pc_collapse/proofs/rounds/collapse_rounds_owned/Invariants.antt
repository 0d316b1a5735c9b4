use Rattle.std.proofs.Common.{[]}
use Rattle.pc_collapse.proofs.rounds.collapse_rounds_owned.Given as goal

abbrev pub ghosts-rounds : goal.ghosts-rounds
ghosts-rounds g a = record { parts = a.parts.now; files = [] }

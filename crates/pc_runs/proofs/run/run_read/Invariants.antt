use Rattle.std.proofs.Common.{List, ℕ}
use Rattle.pc_io.specs.declared.tally.Tally.{Tally}
use Rattle.pc_shared.specs.Written.{HasGoneOut}
use Rattle.pc_runs.proofs.run.run_read.Given as goal

-- the name of the store that was just opened; what has gone out to some state of a file counts as gone out
abbrev pub ghosts-run_store : goal.ghosts-run_store
ghosts-run_store g a = record { name = a.opened; out = λ (text : List ℕ). (now : Tally g.row.F.Denot) × HasGoneOut g.F.Write.contents now text }

use Rattle.bench_calls.proofs.runs.run_shared.Given as goal

-- the name of the store that was just opened; nobody writes its log
abbrev pub ghosts-share : goal.ghosts-share
ghosts-share g a = record { name = a.opened; out = λ text. ⊥ }

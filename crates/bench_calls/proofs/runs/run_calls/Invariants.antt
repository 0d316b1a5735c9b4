use Rattle.bench_calls.proofs.runs.run_calls.Given as goal

-- the name of the store that was just opened; nobody writes its log
abbrev pub ghosts-call_by_one : goal.ghosts-call_by_one
ghosts-call_by_one g a = record { name = a.opened; out = λ text. ⊥ }

use Rattle.test_threads.proofs.run_example.Given as goal

-- the name of the store that was just opened; each text counts as gone out
abbrev pub ghosts-use_store : goal.ghosts-use_store
ghosts-use_store g a = record { name = a.opened; out = λ text. Unit {0} }

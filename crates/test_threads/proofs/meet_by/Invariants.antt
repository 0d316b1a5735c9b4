use Rattle.test_threads.proofs.meet_by.Given as goal

-- the name of the store that was just opened; each text counts as gone out
abbrev pub ghosts-meet : goal.ghosts-meet
ghosts-meet g a = record { name = a.opened; out = λ text. Unit {0} }

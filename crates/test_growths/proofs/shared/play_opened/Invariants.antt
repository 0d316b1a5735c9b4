use Rattle.test_growths.proofs.shared.play_opened.Given as goal

-- the name of the store that was just opened; nobody writes its log
abbrev pub ghosts-play_named : goal.ghosts-play_named
ghosts-play_named g a = record { name = a.opened; out = λ text. ⊥ }

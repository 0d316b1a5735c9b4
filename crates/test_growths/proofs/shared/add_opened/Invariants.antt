use Rattle.test_growths.proofs.shared.add_opened.Given as goal

-- the name of the store that was just opened; nobody writes its log
abbrev pub ghosts-add_named : goal.ghosts-add_named
ghosts-add_named g a = record { name = a.opened; out = λ text. ⊥ }

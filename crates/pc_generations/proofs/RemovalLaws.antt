-- What is known once all generations were looked at that may be too old.
use Rattle.std.proofs.Common.{◌⊎◌, ◌≤◌, ◌<◌, ◌+◌, ℕ, List, Option, None, length, subst, inl, inr, arith}
use Rattle.std.specs.Prelude.{Result, Ok, Err, OnOk}
use Rattle.std.specs.List.{AllWithin, Contains}
use Rattle.pc_generations.specs.Folders.{AreGone, NothingComes}

-- what follows from what holds if a call succeeds holds there too
on_ok : {A E : Type 0} (P Q : Type 0) → (P → Q) → (result : Result A E) → OnOk result P → OnOk result Q
on_ok P Q follows (Ok value) holds = follows holds
on_ok P Q follows (Err why) holds = tt

module _ (old now : ℕ → List ℕ → Option (List ℕ) → Type 0) (keep number : ℕ) where
  -- a generation that is too old is gone: it was looked at, or has had no folder
  each_is_gone : (numbers : List ℕ) (end : ℕ) → ((other : ℕ) → Contains numbers other ⊎ ((name : List ℕ) → old other name None)) → ((other : ℕ) → NothingComes old now other)
      → length numbers ≤ end → AllWithin (λ older. older + keep < number → (name : List ℕ) → now older name None) numbers 0 end → AreGone keep now number
  each_is_gone numbers end known less all gone = λ older below name. elim (known older) [
    | inl there ↦ subst (λ it. it + keep < number → (name : List ℕ) → now it name None) (there.2) (gone (there.0) older (omega arith) (omega (arith, there.1, all))) below name
    | inr nothing ↦ less older name (nothing name)
  ]

  pub removal_ends : {E : Type 0} (removal : Result (Unit {0}) E) (numbers : List ℕ) (end : ℕ) → ((other : ℕ) → Contains numbers other ⊎ ((name : List ℕ) → old other name None)) → ((other : ℕ) → NothingComes old now other)
      → length numbers ≤ end → OnOk removal (AllWithin (λ older. older + keep < number → (name : List ℕ) → now older name None) numbers 0 end) → OnOk removal (AreGone keep now number)
  removal_ends removal numbers end known less all gone = on_ok (AllWithin (λ older. older + keep < number → (name : List ℕ) → now older name None) numbers 0 end) (AreGone keep now number) (each_is_gone numbers end known less all) removal gone

-- What is set at one slot.
use Rattle.std.proofs.Common.{◌≡◌, ◌≢◌, ℕ, ◌⊎◌, inl, inr, sym, ◌∙◌, ap}
use Rattle.std.proofs.lemmas.Bool.{cases_eq}
use Rattle.pc_locks.specs.States.{SetsAt}

-- each place has this, or what it had
pub sets_cases : {A : Type 0} (old new : ℕ → A) (s : ℕ) (x : A) → SetsAt old new s x → (u : ℕ) → ((u ≡ s) × (new u ≡ x)) ⊎ ((u ≢ s) × (new u ≡ old u))
sets_cases old new s x h u = elim (cases_eq u s) [
  | inl e ↦ inl (e, ap new e ∙ h.this)
  | inr n ↦ inr (n, h.others u n)
]

-- if it is what it was, nothing changed
pub sets_same : {A : Type 0} (old new : ℕ → A) (s : ℕ) (x : A) → SetsAt old new s x → x ≡ old s → (u : ℕ) → new u ≡ old u
sets_same old new s x h e u = elim (cases_eq u s) [
  | inl f ↦ ap new f ∙ (h.this ∙ (e ∙ ap old (sym f)))
  | inr n ↦ h.others u n
]

-- what is set twice at one place
pub sets_twice : {A : Type 0} (old middle new : ℕ → A) (s : ℕ) (x y : A) → SetsAt old middle s x → SetsAt middle new s y → SetsAt old new s y
sets_twice old middle new s x y h k = record { this = k.this; others = λ u n. k.others u n ∙ h.others u n }

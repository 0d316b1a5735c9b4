-- First words that are distinguished.
use Rattle.std.proofs.Common.{◌≡◌, ℕ, Bool, true, false, List, refl, sym, subst}
use Rattle.std.specs.Str.{bytes_eq}
use Rattle.std.proofs.lemmas.Slice.Eq.{bytes_eq-Decides}

-- what holds of a command, and of each word that isn't it
pub either : (P : List ℕ → Type 0) (command verb : List ℕ) → P command → (bytes_eq verb command ≡ false → P verb) → P verb
either P command verb its other = by (bytes_eq verb command) refl
  where
    by : (b : Bool) → bytes_eq verb command ≡ b → P verb
    by true e = subst P (sym ((bytes_eq-Decides verb command).0 e)) its
    by false e = other e

use Rattle.std.proofs.Common.{◌≡◌, refl, ◌<◌, ℕ, List, [], ◌∷◌, Bool, true, false, length, nat_lt, inl, arith}
use Rattle.std.specs.Prelude.{⊤}
use Rattle.std.specs.Bool.{MatchBool}
use Rattle.pc_generations.specs.Folders.{HasLoggedEntries, HasNoLoggedEntries}
use Rattle.pc_disk.proofs.generations.GenerationFoldersGenerations.has_entries.Goals as goal

-- a text of 21 bytes
abbrev long : List ℕ
long = 0 ∷ 0 ∷ 0 ∷ 0 ∷ 0 ∷ 0 ∷ 0 ∷ 0 ∷ 0 ∷ 0 ∷ 0 ∷ 0 ∷ 0 ∷ 0 ∷ 0 ∷ 0 ∷ 0 ∷ 0 ∷ 0 ∷ 0 ∷ 0 ∷ []

-- nothing is known of a disk, so that either may be said of it
either : (number : ℕ) (has : Bool) → MatchBool has (HasLoggedEntries (λ number name content. ⊤) number) (HasNoLoggedEntries (λ number name content. ⊤) number)
either number true = let size : length long ≡ 21 = refl in (long, tt, omega (arith, size))
either number false = inl tt

pub returns-in-Ok : goal.returns-in-Ok
returns-in-Ok c = either c.args.number (nat_lt 20 c.len.result)

-- What the rules of a recovery come to: which point it reaches, and which parts it passes over. The rules go over points and parts in
-- order; these are the same sentences of any point and any part.
use Rattle.std.specs.Prelude.{◌≡◌, ◌⊎◌, ◌≤◌, ◌<◌, ◌+◌, ◌==◌, ⊤, ℕ, zero, suc, true, false, List, [], ◌∷◌, Option, Some, None, Result, if◌then◌else◌}
use Rattle.pc_types.specs.declared.limits.TheConstants.{MOST_POINTS}
use Rattle.pc_types.specs.declared.refusal.Refusal.{Refusal}
use Rattle.pc_model.specs.Files.{File}
use Rattle.pc_recover.specs.declared.recovered.Skipped.{Skipped}
use Rattle.pc_recover.specs.Recovery.{reaches, recovered_point, why_unused, unused_from}

-- The recovered point is the base's, or the files reach it from there; and they reach no later one.
pub record IsGreatestReached (base : ℕ) (files : List File) (point : ℕ) : Type 0 where
  pub reached : (point ≡ base) ⊎ (reaches base files point ≡ true)
  pub greatest : (later : ℕ) → point < later → later ≤ MOST_POINTS → reaches base files later ≡ false

abbrev pub RecoveriesReachFurthest : Type 0
RecoveriesReachFurthest = (base : ℕ) (files : List File) → IsGreatestReached base files (recovered_point base files)

-- the reason for which the list says that the part at the place is passed over, if it does
abbrev pub reason_for : ℕ → List Skipped → Option Refusal
reason_for place [] = None
reason_for place (part ∷ others) = if part.place == place then Some part.reason else reason_for place others

-- why the part at the place isn't used, if there is one and it isn't
abbrev pub why_unused_at : ℕ → Option ℕ → List (Result File Refusal) → ℕ → Option Refusal
why_unused_at point gap [] place = None
why_unused_at point gap (part ∷ others) zero = why_unused point gap part
why_unused_at point gap (part ∷ others) (suc place) = why_unused_at point gap others place

-- the places of the list ascend, from this one on
abbrev pub AscendFrom : ℕ → List Skipped → Type 0
AscendFrom place [] = ⊤
AscendFrom place (part ∷ others) = (place ≤ part.place) × AscendFrom (part.place + 1) others

-- Just the parts that aren't used are passed over, each once, in order, and for the reason for which it isn't used.
abbrev pub RecoveriesSkipUnusedParts : Type 0
RecoveriesSkipUnusedParts = (point : ℕ) (gap : Option ℕ) (parts : List (Result File Refusal)) →
    ((place : ℕ) → reason_for place (unused_from 0 point gap parts) ≡ why_unused_at point gap parts place) × AscendFrom 0 (unused_from 0 point gap parts)

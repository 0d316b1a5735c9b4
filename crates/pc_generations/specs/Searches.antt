-- Finding the greatest generation that has a base, and those above it whose logs have entries.
use Rattle.std.specs.Prelude.{◌⊎◌, ◌≤◌, ◌<◌, ⊤, ℕ, List, Option, Some, None}
use Rattle.pc_generations.specs.Names.{base_name}
use Rattle.pc_generations.specs.Folders.{HasBase, HasLoggedEntries, HasNoLoggedEntries}

-- the generation that was found has a base
abbrev pub IsFound : (ℕ → List ℕ → Option (List ℕ) → Type 0) → Option ℕ → Type 0
IsFound stands (Some number) = HasBase stands number
IsFound stands None = ⊤

-- the generation isn't above the one that was found
abbrev pub IsNotAbove : Option ℕ → ℕ → Type 0
IsNotAbove (Some found) number = number ≤ found
IsNotAbove None number = ⊥

-- nor is it one with a base that was passed over
abbrev pub IsNotMissed : (ℕ → List ℕ → Option (List ℕ) → Type 0) → Option ℕ → ℕ → Type 0
IsNotMissed stands found number = IsNotAbove found number ⊎ stands number base_name None

-- of the generation that was found and one more, the greatest one that has a base
abbrev pub IsLaterOf : (ℕ → List ℕ → Option (List ℕ) → Type 0) → Option ℕ → ℕ → Option ℕ → Type 0
IsLaterOf stands found number next = IsFound stands next × ((other : ℕ) → IsNotAbove found other → IsNotAbove next other) × IsNotMissed stands next number

-- the generation is above the one that was found, if one was
abbrev pub IsBeyond : Option ℕ → ℕ → Type 0
IsBeyond (Some found) number = found < number
IsBeyond None number = ⊤

-- This generation is above the one that counts, and its log has entries; or there is none such.
abbrev pub IsLostAbove : (ℕ → List ℕ → Option (List ℕ) → Type 0) → Option ℕ → Option ℕ → Type 0
IsLostAbove stands latest (Some number) = IsBeyond latest number × HasLoggedEntries stands number
IsLostAbove stands latest None = (number : ℕ) → IsBeyond latest number → HasNoLoggedEntries stands number

-- no generation above this one has a folder
abbrev pub IsTop : (ℕ → List ℕ → Option (List ℕ) → Type 0) → Option ℕ → Type 0
IsTop stands greatest = (number : ℕ) → IsBeyond greatest number → (name : List ℕ) → stands number name None

-- a number that isn't below the one that was found, if one was, nor below one more
abbrev pub IsGreaterOf : Option ℕ → ℕ → Option ℕ → Type 0
IsGreaterOf found number greatest = ((other : ℕ) → IsNotAbove found other → IsNotAbove greatest other) × IsNotAbove greatest number

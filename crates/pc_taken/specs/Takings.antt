-- The captured entries of a point: two lists of entries by key, seen as one.
use Rattle.std.specs.Prelude.{◌≡◌, ℕ, List, Option, Some, None, IsSome}
use Rattle.std.specs.List.{AllByRecursion}
use Rattle.std.specs.Coded.{Coded, coded×, coded_ℕ, coded_list, coded_option}
use Rattle.std.specs.FinMap.{find}
use Rattle.std.specs.declared.cmp.Ordering.TheVariants.{Greater}
use Rattle.pc_model.specs.Database.{KeysRise, key_cmp}
use Rattle.pc_model.specs.Merges.{merged}

-- a key, and what it had at the point: a value or nothing
abbrev pub Captured : Type 0
Captured = List ℕ × Option (List ℕ)

-- of what two lists have of a key, that of the second, or else of the first
abbrev pub newest : {X : Type 0} → Option X → Option X → Option X
newest first None = first
newest first (Some x) = Some x

-- the entries of both, ascending by key; of a key that both have the second's
abbrev pub as_one : List Captured → List Captured → List Captured
as_one = merged newest

-- the key is above those of all entries
abbrev pub IsAbove : {X : Type 0} → List ℕ → List (List ℕ × X) → Type 0
IsAbove key entries = AllByRecursion (λ entry. key_cmp key entry.0 ≡ Greater) entries

-- both lists ascend by key; a key above those of the first is in neither, and no key is in both
pub record AreTaken (rising others : List Captured) : Type 0 where
  pub rise : KeysRise rising
  pub others_rise : KeysRise others
  pub below : (key : List ℕ) → IsAbove key rising → find key_cmp key others ≡ None
  pub apart : (key : List ℕ) → IsSome (find key_cmp key rising) → find key_cmp key others ≡ None

-- what was taken is stored as its entries
abbrev pub taken_code : Coded (List Captured)
taken_code = coded_list (coded× (coded_list coded_ℕ) (coded_option (coded_list coded_ℕ)))

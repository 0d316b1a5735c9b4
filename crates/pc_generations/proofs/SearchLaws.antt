-- What is known once all generations were looked at.
use Rattle.std.proofs.Common.{◌⊎◌, ◌≤◌, ℕ, List, Option, Some, None, length, subst, inl, inr, arith}
use Rattle.std.specs.List.{AllWithin, Contains}
use Rattle.pc_generations.specs.Names.{base_name, log_name}
use Rattle.pc_generations.specs.Folders.{HasNoLoggedEntries, IsLatest}
use Rattle.pc_generations.specs.Searches.{IsBeyond, IsNotAbove, IsNotMissed, IsFound, IsTop}

module _ (stands : ℕ → List ℕ → Option (List ℕ) → Type 0) where
  -- what holds of each generation that was looked at, and of each without a folder, holds of all
  each_is_covered : (P : ℕ → Type 0) → ((number : ℕ) → ((name : List ℕ) → stands number name None) → P number)
      → (numbers : List ℕ) (end : ℕ) → ((number : ℕ) → Contains numbers number ⊎ ((name : List ℕ) → stands number name None))
      → length numbers ≤ end → AllWithin P numbers 0 end → (number : ℕ) → P number
  each_is_covered P bare numbers end known all covered number = elim (known number) [
    | inl there ↦ subst P (there.2) (covered (there.0) number (omega arith) (omega (arith, there.1, all)))
    | inr nothing ↦ bare number nothing
  ]

  -- so the one that was found counts
  pub search_ends : (numbers : List ℕ) (found : Option ℕ) (end : ℕ) → ((number : ℕ) → Contains numbers number ⊎ ((name : List ℕ) → stands number name None))
      → length numbers ≤ end → IsFound stands found → AllWithin (IsNotMissed stands found) numbers 0 end → IsLatest stands found
  search_ends numbers None end known all has covered = λ number. elim (each_is_covered (IsNotMissed stands None) (λ n nothing. inr (nothing base_name)) numbers end known all covered number) [ inl never ↦ absurd never | inr nothing ↦ nothing ]
  search_ends numbers (Some latest) end known all has covered =
      (has, λ number above. elim (each_is_covered (IsNotMissed stands (Some latest)) (λ n nothing. inr (nothing base_name)) numbers end known all covered number) [ inl within ↦ absurd (omega (arith, above, within)) | inr nothing ↦ nothing ])

  -- and no log above the one that counts has entries, if none was found
  pub none_lost : (numbers : List ℕ) (latest : Option ℕ) (end : ℕ) → ((number : ℕ) → Contains numbers number ⊎ ((name : List ℕ) → stands number name None))
      → length numbers ≤ end → AllWithin (λ number. IsBeyond latest number → HasNoLoggedEntries stands number) numbers 0 end → (number : ℕ) → IsBeyond latest number → HasNoLoggedEntries stands number
  none_lost numbers latest end known all covered number = each_is_covered (λ number. IsBeyond latest number → HasNoLoggedEntries stands number) (λ n nothing above. inl (nothing log_name)) numbers end known all covered number

  not_both : (greatest : Option ℕ) (number : ℕ) → IsNotAbove greatest number → IsBeyond greatest number → ⊥
  not_both None number within above = within
  not_both (Some greatest) number within above = omega (arith, within, above)

  -- and the greatest number of all is the top
  pub top_found : (numbers : List ℕ) (greatest : Option ℕ) (end : ℕ) → ((number : ℕ) → Contains numbers number ⊎ ((name : List ℕ) → stands number name None))
      → length numbers ≤ end → AllWithin (IsNotAbove greatest) numbers 0 end → IsTop stands greatest
  top_found numbers greatest end known all covered number above = elim (known number) [
    | inl there ↦ absurd (not_both greatest number (subst (IsNotAbove greatest) (there.2) (covered (there.0) number (omega arith) (omega (arith, there.1, all)))) above)
    | inr nothing ↦ nothing
  ]

-- Why there is no base of the recovered state, said of its pairs as a database.
use Rattle.std.proofs.Common.{◌≡◌, ◌⊎◌, inl, inr, ℕ, ◌+◌, ◌≤◌, ◌<◌, Bool, true, false, List, length, refl, sym, subst, arith}
use Rattle.std.specs.Prelude.{◌^◌}
use Rattle.std.proofs.lemmas.Bool.{false≢true}
use Rattle.pc_types.specs.declared.limits.TheConstants.{MOST_FILE_ENTRIES}
use Rattle.pc_model.specs.Database.{KeysRise, database_of}
use Rattle.pc_model.specs.Maps.{len}
use Rattle.pc_texts.proofs.StatePairLaws.{pairs_of}
use Rattle.pc_restore.specs.declared.lacks.Lacks.{Lacks}
use Rattle.pc_restore.specs.Lacks.{is_damaged, refuses}

pub no_next : (run : ℕ) (items : List (List ℕ × List ℕ)) → KeysRise items → (2 ^ 64 ≤ run + 1) ⊎ (MOST_FILE_ENTRIES < length items) → (2 ^ 64 ≤ run + 1) ⊎ (MOST_FILE_ENTRIES < len (database_of items))
no_next run items rise (inl past) = inl past
no_next run items rise (inr many) = inr (subst (λ (pairs : List (List ℕ × List ℕ)). MOST_FILE_ENTRIES < length pairs) (sym (pairs_of items (database_of items) rise refl)) many)

-- if there is a number for the next run, and the pairs are within the limit, there is a base
pub has_next : (run next top most : ℕ) (items : List (List ℕ × List ℕ)) → KeysRise items → next ≡ run + 1 → next < top → length items ≤ most → ¬ ((top ≤ run + 1) ⊎ (most < len (database_of items)))
has_next run next top most items rise is small few (inl past) = omega (arith, is, small, past)
has_next run next top most items rise is small few (inr many) =
    let more : most < length items = subst (λ (pairs : List (List ℕ × List ℕ)). most < length pairs) (pairs_of items (database_of items) rise refl) many in
    omega (arith, few, more)

-- a refused folder is damaged, and that isn't accepted
pub refused : (accepts_damage : Bool) (lacks : Lacks) → refuses accepts_damage lacks ≡ true → (accepts_damage ≡ false) × (is_damaged lacks ≡ true)
refused true lacks is = absurd (false≢true is)
refused false lacks is = (refl, is)

-- What a store starts from.
use Rattle.std.proofs.Common.{◌≡◌, ◌⊎◌, inl, inr, ℕ, ◌+◌, ◌≤◌, ◌<◌, Bool, true, List, length, sym, subst, Some, None}
use Rattle.std.specs.Prelude.{◌^◌}
use Rattle.pc_types.specs.declared.limits.TheConstants.{MOST_FILE_ENTRIES}
use Rattle.pc_types.specs.declared.refusal.Refusal.{Refusal}
use Rattle.pc_types.specs.declared.refusal.Refusal.TheVariants.{OutOfMemory, Full}
use Rattle.pc_model.specs.Database.{KeysRise, database_of}
use Rattle.pc_model.specs.Files.{BaseFile}
use Rattle.pc_model.specs.Maps.{len}
use Rattle.pc_model.proofs.PairMapLaws.{len_of}
use Rattle.pc_recover.specs.Recovery.{Recovery}
use Rattle.pc_border.specs.Openings.{option_fault, IsBaseOf, IsUnopened}
use Rattle.pc_border.specs.Sources.{is_given, IsRecoveredFrom}
use Rattle.pc_border.specs.declared.opening.Options.{Options}
use Rattle.pc_border.specs.declared.sources.Sources.{Sources}

-- the state recovered from what was given, as a base
pub base_given : (given : Bool) (sources : Sources) (run last : ℕ) (found : Recovery) (base : BaseFile) → given ≡ true
    → IsRecoveredFrom sources last found → base ≡ record { run = last + 1; point = 0; pairs = found.pairs } → IsBaseOf given sources run base
base_given given sources run last found base is recovered same = subst (λ (g : Bool). IsBaseOf g sources run base) (sym is) (last, found, recovered, same)

-- what keeps something from being a base, said of its pairs as a database
pub too_much : (run : ℕ) (items : List (List ℕ × List ℕ)) → KeysRise items → (2 ^ 64 ≤ run + 1) ⊎ (MOST_FILE_ENTRIES < length items)
    → (2 ^ 64 ≤ run + 1) ⊎ (MOST_FILE_ENTRIES < len (database_of items))
too_much run items rise (inl past) = inl past
too_much run items rise (inr many) = inr (subst (λ (count : ℕ). MOST_FILE_ENTRIES < count) (len_of items rise) many)

-- why a world isn't made over a base, by cause
pub unopened : (sources : Sources) (options : Options) (base : BaseFile) (why : Refusal) → option_fault options ≡ None → IsBaseOf (is_given sources) sources options.run base
    → ((why ≡ Full) × (options.capacity < len base.pairs)) ⊎ (why ≡ OutOfMemory)
    → (option_fault options ≡ Some why) ⊎ ((option_fault options ≡ None) × IsUnopened sources options why)
unopened sources options base why lawful start (inl (full, more)) = inr (lawful, inr (full, (base, start, more)))
unopened sources options base why lawful start (inr memory) = inr (lawful, inl (inr (inr memory)))

-- The limits of the keys and values that a run writes, and of the numbers that it adds.
use Rattle.std.specs.Prelude.{◌≡◌, true, [], ◌∷◌, ⊤}
use Rattle.pc_types.specs.Changes.{fits_i64}
use Rattle.pc_types.specs.Limits.{IsKey, IsValue}
use Rattle.pc_types.specs.declared.Event.{Event}
use Rattle.pc_types.specs.declared.Event.TheVariants as asked
use Rattle.pc_model.specs.History.{History}

-- the key and the value that are to be written, or the number to add, are within their limits
abbrev pub IsInLimits : Event → Type 0
IsInLimits (asked.Put s key value) = IsKey key × IsValue value
IsInLimits (asked.Del s key) = IsKey key
IsInLimits (asked.Add s key delta) = IsKey key × (fits_i64 delta ≡ true)
IsInLimits other = ⊤

-- those of each event are
abbrev pub AreInLimits : History → Type 0
AreInLimits [] = ⊤
AreInLimits (step ∷ history) = IsInLimits step.event × AreInLimits history

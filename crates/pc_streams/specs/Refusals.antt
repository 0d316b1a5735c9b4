-- The possible refusals of a reader of a part's text, whether its bytes are known or not.
use Rattle.std.specs.Prelude.{◌≡◌, ◌⊎◌, ⊤}
use Rattle.pc_types.specs.declared.Refusal.{Refusal}
use Rattle.pc_types.specs.declared.Refusal.TheVariants.{OutOfMemory, Device, Short, BadMagic, BadRanges, KeyOrder, BadKind, BadLength, Trailing, NotCovered}

-- a fault that the text of a part may have
abbrev pub IsTextFault : Refusal → Type 0
IsTextFault Short = ⊤
IsTextFault BadMagic = ⊤
IsTextFault BadRanges = ⊤
IsTextFault KeyOrder = ⊤
IsTextFault BadKind = ⊤
IsTextFault BadLength = ⊤
IsTextFault Trailing = ⊤
IsTextFault NotCovered = ⊤
IsTextFault why = ⊥

-- an allocation failed, a device failed, or the text has a fault
abbrev pub IsReadRefusal : Refusal → Type 0
IsReadRefusal why = (why ≡ OutOfMemory) ⊎ (why ≡ Device) ⊎ IsTextFault why

-- The effect of a borrowed write on its key.
use Rattle.std.specs.Prelude.{⊤}
use Rattle.pc_types.specs.declared.Change.{Change}
use Rattle.pc_types.specs.declared.Change.TheVariants.{Set, Remove, Add}
use Rattle.pc_types.specs.declared.Write.{Write}
use Rattle.pc_types.specs.Limits.{IsKey, IsValue}
use Rattle.pc_kept_log.specs.declared.lent_writes.LentChange.{LentChange}
use Rattle.pc_kept_log.specs.declared.lent_writes.LentChange.TheVariants as lent

-- the borrowed change
abbrev pub lent_change : LentChange → Change
lent_change (lent.Set value) = Set value.now
lent_change lent.Remove = Remove
lent_change (lent.Add d) = Add d

-- a value that is set is no longer than a value may be
abbrev pub IsShort : Change → Type 0
IsShort (Set value) = IsValue value
IsShort Remove = ⊤
IsShort (Add d) = ⊤

-- so is that of a write, whose key is as long as a key may be
abbrev pub IsShortWrite : Write → Type 0
IsShortWrite write = IsKey write.key × IsShort write.change

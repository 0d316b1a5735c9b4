-- The word that is printed for a refusal.
use Rattle.std.specs.Prelude.{ℕ, List, codes}
use Rattle.pc_types.specs.declared.refusal.Refusal.{Refusal}
use Rattle.pc_types.specs.declared.refusal.Refusal.TheVariants as why

-- the name of the refusal; that of a gap without its point
abbrev pub refusal_name : Refusal → List ℕ
refusal_name why.OutOfMemory = codes "OutOfMemory"
refusal_name why.Full = codes "Full"
refusal_name why.KeyLength = codes "KeyLength"
refusal_name why.ValueLength = codes "ValueLength"
refusal_name why.NoTransaction = codes "NoTransaction"
refusal_name why.AlreadyBegun = codes "AlreadyBegun"
refusal_name why.MustAbort = codes "MustAbort"
refusal_name why.WrongPhase = codes "WrongPhase"
refusal_name why.TooManyWrites = codes "TooManyWrites"
refusal_name why.LogFull = codes "LogFull"
refusal_name why.PointsFull = codes "PointsFull"
refusal_name why.NoSession = codes "NoSession"
refusal_name why.NoFile = codes "NoFile"
refusal_name why.OtherRun = codes "OtherRun"
refusal_name why.Conflict = codes "Conflict"
refusal_name (why.Gap point) = codes "Gap"
refusal_name why.ShelfFull = codes "ShelfFull"
refusal_name why.StillWaiting = codes "StillWaiting"
refusal_name why.NotNumber = codes "NotNumber"
refusal_name why.OutOfRange = codes "OutOfRange"
refusal_name why.Short = codes "Short"
refusal_name why.BadMagic = codes "BadMagic"
refusal_name why.BadRanges = codes "BadRanges"
refusal_name why.KeyOrder = codes "KeyOrder"
refusal_name why.BadKind = codes "BadKind"
refusal_name why.BadLength = codes "BadLength"
refusal_name why.Trailing = codes "Trailing"
refusal_name why.NotCovered = codes "NotCovered"
refusal_name why.TokenOrder = codes "TokenOrder"
refusal_name why.Device = codes "Device"

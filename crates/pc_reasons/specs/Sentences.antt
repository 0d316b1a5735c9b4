-- Why a line is bad, in words.
use Rattle.std.specs.Prelude.{ℕ, List, ◌++◌, codes}
use Rattle.pc_reasons.specs.declared.faults.LineFault.{LineFault}
use Rattle.pc_reasons.specs.declared.faults.LineFault.TheVariants as line
use Rattle.pc_reasons.specs.declared.faults.WordKind.{WordKind}
use Rattle.pc_reasons.specs.declared.faults.WordKind.TheVariants as kind
use Rattle.pc_reasons.specs.declared.faults.WordPlace.{WordPlace}
use Rattle.pc_reasons.specs.declared.faults.WordPlace.TheVariants as place

-- the word of a place
abbrev pub place_name : WordPlace → List ℕ
place_name place.Second = codes "second"
place_name place.Third = codes "third"
place_name place.Fourth = codes "fourth"

-- the expected kind of a word
abbrev pub kind_name : WordKind → List ℕ
kind_name kind.SessionNumber = codes "session number"
kind_name kind.FileNumber = codes "file number"
kind_name kind.KeyWord = codes "key"
kind_name kind.ValueWord = codes "value"
kind_name kind.Addend = codes "number to add"
kind_name kind.PointCount = codes "number from 0 to 1000"
kind_name kind.ClientNumber = codes "session number from 1 to 64"
kind_name kind.WholeKey = codes "key of 1 to 255 bytes"
kind_name kind.WholeValue = codes "value of at most 65535 bytes"
kind_name kind.KeyPrefix = codes "prefix of at most 249 bytes"
kind_name kind.FillCount = codes "number from 1 to 1000000"

-- what is wrong with a line by itself
abbrev pub fault_sentence : LineFault → List ℕ
fault_sentence line.NoCommand = codes "the first word names no command"
fault_sentence line.TooFewWords = codes "a word is missing"
fault_sentence line.TooManyWords = codes "there are too many words"
fault_sentence line.CarriageReturn = codes "a CR stands at its end"
fault_sentence (line.WrongWord place kind) = codes "the " ++ (place_name place ++ (codes " word is no " ++ kind_name kind))

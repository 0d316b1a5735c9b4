-- The output of `pcalc log`: a line for each entry of a log within a range, and one for the fault with which the rest
-- begins.
use Rattle.std.specs.Prelude.{ℕ, ◌+◌, ◌-◌, ◌&&◌, nat_le, if◌then◌else◌, List, [], ◌∷◌, ◌++◌, length, Option, Some, None, Result, Ok, Err, codes, decimal}
use Rattle.std.specs.List.{flat_map}
use Rattle.std.specs.Fmt.{signed_decimal}
use Rattle.pc_types.specs.Names.{refusal_name}
use Rattle.pc_types.specs.declared.Entry.{Entry}
use Rattle.pc_types.specs.declared.Entry.TheVariants.{Commit, Token}
use Rattle.pc_types.specs.declared.Change.{Change}
use Rattle.pc_types.specs.declared.Change.TheVariants.{Set, Remove, Add}
use Rattle.pc_types.specs.declared.Write.{Write}
use Rattle.pc_types.specs.declared.refusal.Refusal.{Refusal}
use Rattle.pc_log.specs.Reading.{LogRead, LogReading, log_at}
use Rattle.pc_texts.specs.Texts.{phase_name, printed, printed_key}
use Rattle.pc_log_lines.specs.declared.reading.EntryRange.{EntryRange}
use Rattle.pc_log_lines.specs.declared.reading.Rest.{Rest}

-- ---- an entry

-- what a write does to its key, as a line of a script spells it
abbrev pub change_words : List ℕ → Change → List ℕ
change_words key (Set value) = (codes "put " ++ printed_key key) ++ (codes " " ++ printed value)
change_words key Remove = codes "del " ++ printed_key key
change_words key (Add number) = (codes "add " ++ printed_key key) ++ (codes " " ++ signed_decimal number)

-- a write
abbrev pub write_words : Write → List ℕ
write_words write = change_words write.key write.change

-- a write that isn't the first of its commit
abbrev pub later_words : Write → List ℕ
later_words write = codes ", " ++ write_words write

-- the writes of a commit
abbrev pub writes_words : List Write → List ℕ
writes_words [] = []
writes_words (write ∷ writes) = (codes " " ++ write_words write) ++ flat_map later_words writes

-- an entry
abbrev pub entry_words : Entry → List ℕ
entry_words (Commit session writes) = (codes "commit session " ++ decimal session) ++ writes_words writes
entry_words (Token phase point) = phase_name phase ++ (codes " " ++ decimal point)

-- the line of the entry of this number
abbrev pub entry_line : ℕ → Entry → List ℕ
entry_line number entry = (decimal number ++ codes " ") ++ (entry_words entry ++ codes "\n")

-- the same if the number lies in the range, else nothing
abbrev pub line_within : EntryRange → ℕ → Entry → List ℕ
line_within range number entry = if nat_le range.low number && nat_le number range.high then entry_line number entry else []

-- the lines of the entries after this many others
abbrev pub lines_behind : EntryRange → ℕ → List Entry → List ℕ
lines_behind range count [] = []
lines_behind range count (entry ∷ entries) = line_within range (count + 1) entry ++ lines_behind range (count + 1) entries

-- ---- the rest

-- what is left after the entries that were read
abbrev pub rest_found : LogReading → Rest
rest_found found = record { bytes = found.rest; fault = found.fault }

-- what is left of a log of this many bytes, of which this is read
abbrev pub rest_of_log : ℕ → Result LogRead Refusal → Rest
rest_of_log size (Ok log) = record { bytes = log.rest; fault = log.fault }
rest_of_log size (Err why) = record { bytes = size; fault = Some why }

-- the line of a fault, and the byte with which what has it begins, counted from 1
abbrev pub fault_line : Refusal → ℕ → List ℕ
fault_line why byte = codes "log " ++ (refusal_name why ++ (codes " byte " ++ (decimal byte ++ codes "\n")))

-- the line of the rest of a log of this many bytes: it is the fault's, if there is one
abbrev pub rest_line : ℕ → ℕ → Option Refusal → List ℕ
rest_line size left None = []
rest_line size left (Some why) = fault_line why (size - (left - 1))

-- ---- a log

-- the lines of the whole entries
abbrev pub entry_lines : EntryRange → Result LogRead Refusal → List ℕ
entry_lines range (Ok log) = lines_behind range 0 log.entries
entry_lines range (Err why) = []

-- all lines of a log of this many bytes, of which this is read and this is left
abbrev pub lines_with : EntryRange → ℕ → Result LogRead Refusal → Rest → List ℕ
lines_with range size read rest = entry_lines range read ++ rest_line size rest.bytes rest.fault

-- all lines of a log of these bytes
abbrev pub log_lines : EntryRange → List ℕ → List ℕ
log_lines range bytes = lines_with range (length bytes) (log_at bytes) (rest_of_log (length bytes) (log_at bytes))

-- the status: 4 if there is a fault
abbrev pub rest_status : Option Refusal → ℕ
rest_status None = 0
rest_status (Some why) = 4

-- that of a log of these bytes
abbrev pub log_status : List ℕ → ℕ
log_status bytes = rest_status (rest_of_log (length bytes) (log_at bytes)).fault

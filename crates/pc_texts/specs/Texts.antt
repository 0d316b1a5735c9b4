-- The printed texts: that of each reply, and of the bytes of keys and values.
use Rattle.std.specs.Prelude.{ℕ, zero, suc, ◌/◌, ◌%◌, ◌==◌, Bool, List, [], ◌∷◌, ◌++◌, Option, Some, None, if◌then◌else◌, codes, decimal}
use Rattle.std.specs.List.{flat_map}
use Rattle.std.specs.Str.{bytes_eq}
use Rattle.std.specs.Char.{digit_char}
use Rattle.std.specs.Fmt.{signed_decimal}
use Rattle.pc_types.specs.Keys.{space_of, own_bytes}
use Rattle.pc_types.specs.Names.{refusal_name}
use Rattle.pc_types.specs.declared.Phase.{Phase}
use Rattle.pc_types.specs.declared.Phase.TheVariants as phase
use Rattle.pc_types.specs.declared.Reply.{Reply}
use Rattle.pc_types.specs.declared.Reply.TheVariants as told
use Rattle.pc_types.specs.declared.Refusal.{Refusal}
use Rattle.pc_types.specs.declared.Refusal.TheVariants as why
use Rattle.pc_model.specs.Maps.{len}
use Rattle.pc_model.specs.Files.{BaseFile}
use Rattle.pc_model.specs.Ranges.{ranges_of}
use Rattle.pc_lines.specs.Words.{is_plain}

-- a byte as printed: a plain one as it is, any other one as an escape
abbrev pub printed_byte : ℕ → List ℕ
printed_byte b = if is_plain b then b ∷ [] else 92 ∷ 120 ∷ digit_char (b / 16) ∷ digit_char (b % 16) ∷ []

-- a file's name as printed: each of its bytes so, and no bytes as none
abbrev pub printed_name : List ℕ → List ℕ
printed_name name = flat_map printed_byte name

-- a key or value as printed: no bytes as a hyphen, and the hyphen alone as an escape
abbrev pub printed : List ℕ → List ℕ
printed [] = codes "-"
printed (b ∷ bytes) = if bytes_eq (b ∷ bytes) (codes "-") then 92 ∷ 120 ∷ 50 ∷ 100 ∷ [] else flat_map printed_byte (b ∷ bytes)

-- the prefix of a key's own bytes: nothing in space 0, else `\sN:` of its space
abbrev pub printed_space : ℕ → List ℕ
printed_space zero = []
printed_space (suc n) = codes "\\s" ++ (decimal (suc n) ++ codes ":")

-- a key as printed
abbrev pub printed_key : List ℕ → List ℕ
printed_key key = printed_space (space_of key) ++ printed (own_bytes key)

-- the value of a key that was taken
abbrev pub printed_value : Option (List ℕ) → List ℕ
printed_value None = codes "tombstone"
printed_value (Some value) = printed value

-- the word of a phase
abbrev pub phase_name : Phase → List ℕ
phase_name phase.Rest = codes "rest"
phase_name phase.Prepare = codes "prepare"
phase_name phase.Resolve = codes "resolve"
phase_name phase.Capture = codes "capture"
phase_name phase.Complete = codes "complete"

-- a range of one point, or of more
abbrev pub range_text : ℕ × ℕ → List ℕ
range_text r = if r.0 == r.1 then decimal r.0 else decimal r.0 ++ (codes "-" ++ decimal r.1)

-- the ranges, with commas between them
abbrev pub ranges_text : List (ℕ × ℕ) → List ℕ
ranges_text [] = []
ranges_text (r ∷ []) = range_text r
ranges_text (r ∷ s ∷ ranges) = range_text r ++ (codes "," ++ ranges_text (s ∷ ranges))

-- why a call was refused
abbrev pub refusal_text : Refusal → List ℕ
refusal_text (why.Gap point) = codes "Gap " ++ decimal point
refusal_text other = refusal_name other

-- the text of a reply
abbrev pub reply_text : Reply → List ℕ
reply_text (told.Begun txn) = codes "begun " ++ decimal txn
reply_text (told.Found value) = codes "= " ++ printed value
reply_text told.Absent = codes "absent"
reply_text told.Ok = codes "ok"
reply_text (told.Sum sum) = codes "sum " ++ signed_decimal sum
reply_text told.Wait = codes "wait"
reply_text told.Died = codes "died"
reply_text (told.Committed lsn) = codes "committed " ++ decimal lsn
reply_text told.Aborted = codes "aborted"
reply_text (told.Phase phase point) = codes "phase " ++ (phase_name phase ++ (codes " " ++ decimal point))
reply_text (told.NotYet count) = codes "not yet " ++ decimal count
reply_text (told.Took key value) = codes "took " ++ (printed_key key ++ (codes " " ++ printed_value value))
reply_text told.NoneLeft = codes "none left"
reply_text (told.PartDone point file entries) = codes "part " ++ (decimal point ++ (codes " file " ++ (decimal file ++ (codes " entries " ++ decimal entries))))
reply_text (told.File file points entries) = codes "file " ++ (decimal file ++ (codes " points " ++ (ranges_text (ranges_of points) ++ (codes " entries " ++ decimal entries))))
reply_text (told.Refused why) = codes "refused " ++ refusal_text why

-- a pair of a state, with the end of its line
abbrev pub pair_text : List ℕ × List ℕ → List ℕ
pair_text pair = (printed_key pair.0 ++ (codes " " ++ printed pair.1)) ++ codes "\n"

-- the point of a state and the number of its pairs
abbrev pub state_head : ℕ → ℕ → List ℕ
state_head point count = (codes "state point " ++ decimal point) ++ (codes " pairs " ++ decimal count)

-- a state: a line for its point and the number of its pairs, and a line for each pair
abbrev pub state_text : BaseFile → List ℕ
state_text base = state_head base.point (len base.pairs) ++ (codes "\n" ++ flat_map pair_text base.pairs.entries)

-- a byte by its two hexadecimal digits
abbrev pub hex_byte : ℕ → List ℕ
hex_byte b = digit_char (b / 16) ∷ digit_char (b % 16) ∷ []

-- the bytes of a file, with the end of the line
abbrev pub hex_line : List ℕ → List ℕ
hex_line bytes = (codes "text " ++ flat_map hex_byte bytes) ++ codes "\n"

-- what a check found, with the end of the line
abbrev pub check_line : Bool → List ℕ
check_line sound = if sound then codes "check ok\n" else codes "check failed\n"

-- a word, the ranges of these points, and a number of entries, with the end of the line
abbrev pub file_line : List ℕ → List ℕ → ℕ → List ℕ
file_line word points count = (word ++ ranges_text (ranges_of points)) ++ (codes " entries " ++ (decimal count ++ codes "\n"))

-- the line of a joined file
abbrev pub joined_line : List ℕ → ℕ → List ℕ
joined_line points count = file_line (codes "points ") points count

-- the line of the file of all points of a run
abbrev pub collapsed_line : List ℕ → ℕ → List ℕ
collapsed_line points count = file_line (codes "collapsed ") points count

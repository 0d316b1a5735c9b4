-- Why the lines of a script are bad.
use Rattle.std.specs.Prelude.{ℕ, ◌+◌, ◌||◌, Bool, true, false, List, [], ◌∷◌, Option, Some, None, if◌then◌else◌, codes}
use Rattle.std.specs.Str.{bytes_eq}
use Rattle.pc_lines.specs.Lines.{words_of, is_comment}
use Rattle.pc_lines.specs.declared.lines.Line.{Line}
use Rattle.pc_lines.specs.declared.lines.Line.TheVariants as line
use Rattle.pc_reasons.specs.declared.faults.LineFault.{LineFault}
use Rattle.pc_reasons.specs.declared.faults.LineFault.TheVariants.{NoCommand}
use Rattle.pc_reasons.specs.declared.faults.WordKind.TheVariants as kind
use Rattle.pc_reasons.specs.declared.told_lines.BadLine.{BadLine}
use Rattle.pc_reasons.specs.LineFaults.{no_word, one_word_fault, two_word_fault, three_word_fault, reported_fault}

-- a command of one word
abbrev pub is_lone : List ℕ → Bool
is_lone verb =
    bytes_eq verb (codes "point") || bytes_eq verb (codes "seal") || bytes_eq verb (codes "capture") || bytes_eq verb (codes "take")
    || bytes_eq verb (codes "done") || bytes_eq verb (codes "rest") || bytes_eq verb (codes "check")

-- one with a session's number after it
abbrev pub is_of_session : List ℕ → Bool
is_of_session verb = bytes_eq verb (codes "begin") || bytes_eq verb (codes "commit") || bytes_eq verb (codes "abort")

-- one with a file's number after it
abbrev pub is_of_file : List ℕ → Bool
is_of_file verb = bytes_eq verb (codes "state") || bytes_eq verb (codes "text")

-- one with a session's number and a key after it
abbrev pub is_of_key : List ℕ → Bool
is_of_key verb = bytes_eq verb (codes "get") || bytes_eq verb (codes "del")

-- what is wrong with the words after a first word
abbrev pub command_fault : List ℕ → List (List ℕ) → Option LineFault
command_fault verb words =
    if is_lone verb then no_word words
    else (if is_of_session verb then one_word_fault kind.SessionNumber words
    else (if is_of_file verb then one_word_fault kind.FileNumber words
    else (if is_of_key verb then two_word_fault kind.SessionNumber kind.KeyWord words
    else (if bytes_eq verb (codes "base") then two_word_fault kind.KeyWord kind.ValueWord words
    else (if bytes_eq verb (codes "join") then two_word_fault kind.FileNumber kind.FileNumber words
    else (if bytes_eq verb (codes "put") then three_word_fault kind.SessionNumber kind.KeyWord kind.ValueWord words
    else (if bytes_eq verb (codes "add") then three_word_fault kind.SessionNumber kind.KeyWord kind.Addend words else Some NoCommand)))))))

-- what is wrong with the words of a line; nothing if there are none
abbrev pub words_fault : List (List ℕ) → Option LineFault
words_fault [] = None
words_fault (verb ∷ words) = command_fault verb words

-- what is wrong with a line
abbrev pub script_fault : List ℕ → Option LineFault
script_fault text = if is_comment text then None else reported_fault text (words_fault (words_of text))

-- a line of this number, if it is bad, before other bad lines
abbrev pub with_bad_line : ℕ → Option LineFault → List BadLine → List BadLine
with_bad_line number None bad = bad
with_bad_line number (Some fault) bad = record { number = number; fault = fault } ∷ bad

-- the bad lines of some, of which the first has this number
abbrev pub bad_lines : ℕ → List (List ℕ) → List BadLine
bad_lines number [] = []
bad_lines number (line ∷ lines) = with_bad_line number (script_fault line) (bad_lines (number + 1) lines)

-- whether what a line spells is a bad line
abbrev pub is_malformed : Line → Bool
is_malformed line.Malformed = true
is_malformed spelled = false

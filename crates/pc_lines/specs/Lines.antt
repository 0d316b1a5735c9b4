-- The words of a script's line, and what a line spells.
use Rattle.std.specs.Prelude.{ℕ, ◌+◌, ◌==◌, ◌&&◌, nat_lt, nat_le, Bool, false, ℤ, List, [], ◌∷◌, Option, Some, None, if◌then◌else◌, length, map, filter, codes}
use Rattle.std.specs.List.{slice_split}
use Rattle.std.specs.Str.{bytes_eq}
use Rattle.bstr.specs.Text.{lines_of, without_terminator}
use Rattle.pc_types.specs.declared.Event.TheVariants as asked
use Rattle.pc_types.specs.declared.Refusal.TheVariants as why
use Rattle.pc_types.specs.declared.limits.TheConstants.{SPACE_BYTES, MOST_KEY_BYTES, MOST_VALUE_BYTES}
use Rattle.pc_lines.specs.declared.lines.Line.{Line}
use Rattle.pc_lines.specs.declared.lines.Line.TheVariants as line
use Rattle.pc_lines.specs.declared.lines.View.TheVariants as view
use Rattle.pc_lines.specs.Words.{parsed_number, signed_number_of, word_text, key_text_of}

-- the lines: each ends with a line feed, before which one carriage return is dropped; the last one may lack its line feed
abbrev pub lines_in : List ℕ → List (List ℕ)
lines_in script = map without_terminator (lines_of script)

-- the words of a line: the texts between its spaces, without the empty ones
abbrev pub words_of : List ℕ → List (List ℕ)
words_of text = filter (λ word. nat_lt 0 (length word)) (slice_split (λ b. b == 32) text)

-- a key has 1 to 255 bytes of its own, after its space's two
abbrev pub is_key : List ℕ → Bool
is_key key = nat_lt SPACE_BYTES (length key) && nat_le (length key) (SPACE_BYTES + MOST_KEY_BYTES)

-- a value has at most 65,535 bytes
abbrev pub is_value : List ℕ → Bool
is_value bytes = nat_le (length bytes) MOST_VALUE_BYTES

-- a pair of the base, whose key is tested before its value
abbrev pub base_line : Option (List ℕ) → Option (List ℕ) → Line
base_line (Some key) (Some value) = if is_key key then (if is_value value then line.Sets key value else line.SetsRefused why.ValueLength) else line.SetsRefused why.KeyLength
base_line key value = line.Malformed

-- a read
abbrev pub get_line : Option ℕ → Option (List ℕ) → Line
get_line (Some session) (Some key) = if is_key key then line.Asks (asked.Get session key) else line.AsksRefused why.KeyLength
get_line session key = line.Malformed

-- a removal
abbrev pub del_line : Option ℕ → Option (List ℕ) → Line
del_line (Some session) (Some key) = if is_key key then line.Asks (asked.Del session key) else line.AsksRefused why.KeyLength
del_line session key = line.Malformed

-- a put, whose key is tested before its value
abbrev pub put_line : Option ℕ → Option (List ℕ) → Option (List ℕ) → Line
put_line (Some session) (Some key) (Some value) =
    if is_key key then (if is_value value then line.Asks (asked.Put session key value) else line.AsksRefused why.ValueLength) else line.AsksRefused why.KeyLength
put_line session key value = line.Malformed

-- an add
abbrev pub add_line : Option ℕ → Option (List ℕ) → Option ℤ → Line
add_line (Some session) (Some key) (Some delta) = if is_key key then line.Asks (asked.Add session key delta) else line.AsksRefused why.KeyLength
add_line session key delta = line.Malformed

-- what a word alone spells
abbrev pub one_word : List ℕ → Line
one_word verb =
    if bytes_eq verb (codes "point") then line.Asks asked.StartPoint
    else (if bytes_eq verb (codes "seal") then line.Asks asked.Seal
    else (if bytes_eq verb (codes "capture") then line.Asks asked.OpenCapture
    else (if bytes_eq verb (codes "take") then line.Asks asked.Take
    else (if bytes_eq verb (codes "done") then line.Asks asked.Done
    else (if bytes_eq verb (codes "rest") then line.Asks asked.Rest
    else (if bytes_eq verb (codes "check") then line.Shows view.Check else line.Malformed))))))

-- what a word and a number spell
abbrev pub numbered_line : List ℕ → ℕ → Line
numbered_line verb number =
    if bytes_eq verb (codes "begin") then line.Asks (asked.Begin number)
    else (if bytes_eq verb (codes "commit") then line.Asks (asked.Commit number)
    else (if bytes_eq verb (codes "abort") then line.Asks (asked.Abort number)
    else (if bytes_eq verb (codes "state") then line.Shows (view.State number)
    else (if bytes_eq verb (codes "text") then line.Shows (view.Text number) else line.Malformed))))

-- the same if the number may be no number
abbrev pub numbered : List ℕ → Option ℕ → Line
numbered verb (Some number) = numbered_line verb number
numbered verb None = line.Malformed

-- what two words spell
abbrev pub two_words : List ℕ → List ℕ → Line
two_words verb number = numbered verb (parsed_number number)

-- a join of two files
abbrev pub join_line : Option ℕ → Option ℕ → Line
join_line (Some first) (Some second) = line.Asks (asked.Join first second)
join_line first second = line.Malformed

-- what three words spell
abbrev pub three_words : List ℕ → List ℕ → List ℕ → Line
three_words verb first second =
    if bytes_eq verb (codes "get") then get_line (parsed_number first) (key_text_of second)
    else (if bytes_eq verb (codes "del") then del_line (parsed_number first) (key_text_of second)
    else (if bytes_eq verb (codes "base") then base_line (key_text_of first) (word_text second)
    else (if bytes_eq verb (codes "join") then join_line (parsed_number first) (parsed_number second) else line.Malformed)))

-- what four words spell
abbrev pub four_words : List ℕ → List ℕ → List ℕ → List ℕ → Line
four_words verb first second third =
    if bytes_eq verb (codes "put") then put_line (parsed_number first) (key_text_of second) (word_text third)
    else (if bytes_eq verb (codes "add") then add_line (parsed_number first) (key_text_of second) (signed_number_of third) else line.Malformed)

-- what the words of a line spell
abbrev pub spelled_by : List (List ℕ) → Line
spelled_by [] = line.Silent
spelled_by (verb ∷ []) = one_word verb
spelled_by (verb ∷ a ∷ []) = two_words verb a
spelled_by (verb ∷ a ∷ b ∷ []) = three_words verb a b
spelled_by (verb ∷ a ∷ b ∷ c ∷ []) = four_words verb a b c
spelled_by words = line.Malformed

-- a comment: the first byte is a number sign
abbrev pub is_comment : List ℕ → Bool
is_comment [] = false
is_comment (b ∷ text) = b == 35

-- what a line spells
abbrev pub spelled : List ℕ → Line
spelled text = if is_comment text then line.Silent else spelled_by (words_of text)

-- The meaning of a line of a workload by itself.
use Rattle.std.specs.Prelude.{ℕ, ◌&&◌, nat_le, Bool, ℤ, List, [], ◌∷◌, Option, Some, None, if◌then◌else◌, codes}
use Rattle.std.specs.Str.{bytes_eq}
use Rattle.pc_types.specs.declared.limits.TheConstants.{MOST_SESSIONS}
use Rattle.pc_lines.specs.Words.{parsed_number, signed_number_of, word_text, key_text_of}
use Rattle.pc_lines.specs.Lines.{words_of, is_key, is_value, is_comment}
use Rattle.pc_jobs.specs.declared.works.Op.TheVariants as op
use Rattle.pc_jobs.specs.declared.phrases.Phrase.{Phrase}
use Rattle.pc_jobs.specs.declared.phrases.Phrase.TheVariants as phrase
use Rattle.pc_jobs.specs.declared.phrases.TheConstants.{MOST_FILL, MOST_RUN_POINTS}
use Rattle.pc_jobs.specs.Prefixes.{is_prefix}

-- a text of which a test holds
abbrev pub text_with : (List ℕ → Bool) → Option (List ℕ) → Option (List ℕ)
text_with test (Some text) = if test text then Some text else None
text_with test None = None

-- the key that a word spells
abbrev pub spelled_key : List ℕ → Option (List ℕ)
spelled_key word = text_with is_key (key_text_of word)

-- the value that a word spells
abbrev pub spelled_value : List ℕ → Option (List ℕ)
spelled_value word = text_with is_value (word_text word)

-- the prefix that a word spells
abbrev pub prefix_of : List ℕ → Option (List ℕ)
prefix_of word = text_with is_prefix (key_text_of word)

-- a number within limits
abbrev pub within : ℕ → ℕ → Option ℕ → Option ℕ
within least most (Some n) = if nat_le least n && nat_le n most then Some n else None
within least most None = None

-- the number within limits that a word writes
abbrev pub number_within : ℕ → ℕ → List ℕ → Option ℕ
number_within least most word = within least most (parsed_number word)

-- the number of points to take
abbrev pub points_line : Option ℕ → Phrase
points_line (Some points) = phrase.Points points
points_line None = phrase.Malformed

-- whose work follows
abbrev pub client_line : Option ℕ → Phrase
client_line (Some session) = phrase.Client session
client_line None = phrase.Malformed

-- a read
abbrev pub get_op_line : Option (List ℕ) → Phrase
get_op_line (Some key) = phrase.Does (op.Get key)
get_op_line None = phrase.Malformed

-- a removal
abbrev pub del_op_line : Option (List ℕ) → Phrase
del_op_line (Some key) = phrase.Does (op.Del key)
del_op_line None = phrase.Malformed

-- a put
abbrev pub put_op_line : Option (List ℕ) → Option (List ℕ) → Phrase
put_op_line (Some key) (Some value) = phrase.Does (op.Put key value)
put_op_line key value = phrase.Malformed

-- an add
abbrev pub add_op_line : Option (List ℕ) → Option ℤ → Phrase
add_op_line (Some key) (Some delta) = phrase.Does (op.Add key delta)
add_op_line key delta = phrase.Malformed

-- a fill
abbrev pub fill_line : Option (List ℕ) → Option ℕ → Option (List ℕ) → Phrase
fill_line (Some prefix) (Some count) (Some value) = phrase.Fill (record { prefix = prefix; count = count; value = value })
fill_line prefix count value = phrase.Malformed

-- what a word alone spells
abbrev pub one_word_phrase : List ℕ → Phrase
one_word_phrase verb =
    if bytes_eq verb (codes "txn") then phrase.Begin
    else (if bytes_eq verb (codes "end") then phrase.End else phrase.Malformed)

-- what two words spell
abbrev pub two_word_phrase : List ℕ → List ℕ → Phrase
two_word_phrase verb word =
    if bytes_eq verb (codes "points") then points_line (number_within 0 MOST_RUN_POINTS word)
    else (if bytes_eq verb (codes "client") then client_line (number_within 1 MOST_SESSIONS word)
    else (if bytes_eq verb (codes "get") then get_op_line (spelled_key word)
    else (if bytes_eq verb (codes "del") then del_op_line (spelled_key word) else phrase.Malformed)))

-- what three words spell
abbrev pub three_word_phrase : List ℕ → List ℕ → List ℕ → Phrase
three_word_phrase verb key word =
    if bytes_eq verb (codes "put") then put_op_line (spelled_key key) (spelled_value word)
    else (if bytes_eq verb (codes "add") then add_op_line (spelled_key key) (signed_number_of word) else phrase.Malformed)

-- what four words spell
abbrev pub four_word_phrase : List ℕ → List ℕ → List ℕ → List ℕ → Phrase
four_word_phrase verb prefix count value =
    if bytes_eq verb (codes "fill") then fill_line (prefix_of prefix) (number_within 1 MOST_FILL count) (spelled_value value) else phrase.Malformed

-- what the words of a line spell
abbrev pub phrase_of_words : List (List ℕ) → Phrase
phrase_of_words [] = phrase.Silent
phrase_of_words (verb ∷ []) = one_word_phrase verb
phrase_of_words (verb ∷ word ∷ []) = two_word_phrase verb word
phrase_of_words (verb ∷ key ∷ word ∷ []) = three_word_phrase verb key word
phrase_of_words (verb ∷ prefix ∷ count ∷ value ∷ []) = four_word_phrase verb prefix count value
phrase_of_words words = phrase.Malformed

-- what a line spells
abbrev pub spelled_phrase : List ℕ → Phrase
spelled_phrase text = if is_comment text then phrase.Silent else phrase_of_words (words_of text)

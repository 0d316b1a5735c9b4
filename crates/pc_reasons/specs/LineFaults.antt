-- The faults of the words of a line.
use Rattle.std.specs.Prelude.{ℕ, ◌-◌, ◌==◌, Bool, List, [], ◌∷◌, Option, Some, None, if◌then◌else◌, is_some, length, slice_index}
use Rattle.pc_types.specs.declared.limits.TheConstants.{MOST_SESSIONS}
use Rattle.pc_lines.specs.Words.{parsed_number, signed_number_of, word_text, key_text_of}
use Rattle.pc_jobs.specs.declared.phrases.TheConstants.{MOST_FILL, MOST_RUN_POINTS}
use Rattle.pc_jobs.specs.Phrases.{spelled_key, spelled_value, prefix_of, number_within}
use Rattle.pc_reasons.specs.declared.faults.LineFault.{LineFault}
use Rattle.pc_reasons.specs.declared.faults.LineFault.TheVariants as line
use Rattle.pc_reasons.specs.declared.faults.WordKind.{WordKind}
use Rattle.pc_reasons.specs.declared.faults.WordKind.TheVariants as kind
use Rattle.pc_reasons.specs.declared.faults.WordPlace.{WordPlace}
use Rattle.pc_reasons.specs.declared.faults.WordPlace.TheVariants as place

-- the word writes a number within limits
abbrev pub is_within : ℕ → ℕ → List ℕ → Bool
is_within least most word = is_some (number_within least most word)

-- the word is of this kind
abbrev pub is_of_kind : WordKind → List ℕ → Bool
is_of_kind kind.SessionNumber word = is_some (parsed_number word)
is_of_kind kind.FileNumber word = is_some (parsed_number word)
is_of_kind kind.KeyWord word = is_some (key_text_of word)
is_of_kind kind.ValueWord word = is_some (word_text word)
is_of_kind kind.Addend word = is_some (signed_number_of word)
is_of_kind kind.PointCount word = is_within 0 MOST_RUN_POINTS word
is_of_kind kind.ClientNumber word = is_within 1 MOST_SESSIONS word
is_of_kind kind.WholeKey word = is_some (spelled_key word)
is_of_kind kind.WholeValue word = is_some (spelled_value word)
is_of_kind kind.KeyPrefix word = is_some (prefix_of word)
is_of_kind kind.FillCount word = is_within 1 MOST_FILL word

-- the fault of a word at this place whose expected kind is this
abbrev pub word_fault : WordPlace → WordKind → List ℕ → Option LineFault
word_fault place kind word = if is_of_kind kind word then None else Some (line.WrongWord place kind)

-- the first of two faults
abbrev pub earlier_fault : Option LineFault → Option LineFault → Option LineFault
earlier_fault (Some fault) other = Some fault
earlier_fault None other = other

-- the fault of the second and the third word
abbrev pub pair_fault : WordKind → WordKind → List ℕ → List ℕ → Option LineFault
pair_fault first second word other = earlier_fault (word_fault place.Second first word) (word_fault place.Third second other)

-- the fault of the words after a command that takes none
abbrev pub no_word : List (List ℕ) → Option LineFault
no_word [] = None
no_word words = Some line.TooManyWords

-- the same of one that takes a word
abbrev pub one_word_fault : WordKind → List (List ℕ) → Option LineFault
one_word_fault kind [] = Some line.TooFewWords
one_word_fault kind (word ∷ []) = word_fault place.Second kind word
one_word_fault kind words = Some line.TooManyWords

-- of one that takes two
abbrev pub two_word_fault : WordKind → WordKind → List (List ℕ) → Option LineFault
two_word_fault first second [] = Some line.TooFewWords
two_word_fault first second (word ∷ []) = Some line.TooFewWords
two_word_fault first second (word ∷ other ∷ []) = pair_fault first second word other
two_word_fault first second words = Some line.TooManyWords

-- and of one that takes three
abbrev pub three_word_fault : WordKind → WordKind → WordKind → List (List ℕ) → Option LineFault
three_word_fault first second third [] = Some line.TooFewWords
three_word_fault first second third (word ∷ []) = Some line.TooFewWords
three_word_fault first second third (word ∷ other ∷ []) = Some line.TooFewWords
three_word_fault first second third (word ∷ other ∷ last ∷ []) = earlier_fault (pair_fault first second word other) (word_fault place.Fourth third last)
three_word_fault first second third words = Some line.TooManyWords

-- the last byte of a line is a CR
abbrev pub ends_with_cr : List ℕ → Bool
ends_with_cr line = slice_index line (length line - 1) == 13

-- the reason for a line with this fault: for one that ends with a CR, that
abbrev pub reported_fault : List ℕ → Option LineFault → Option LineFault
reported_fault text None = None
reported_fault text (Some fault) = if ends_with_cr text then Some line.CarriageReturn else Some fault

-- The database that lines of pairs give.
use Rattle.std.specs.Prelude.{◌≡◌, ℕ, ◌+◌, ◌<◌, ◌==◌, List, [], ◌∷◌, Option, Some, None, Result, Ok, Err, if◌then◌else◌, is_some, take, drop, codes, ⊤}
use Rattle.std.specs.List.{position}
use Rattle.pc_types.specs.Bytes.{IsBytes}
use Rattle.pc_types.specs.declared.limits.TheConstants.{MOST_FILE_ENTRIES}
use Rattle.pc_bases.specs.Lawful.{IsPair}
use Rattle.pc_model.specs.Files.{BaseFile}
use Rattle.pc_model.specs.Maps.{empty, get, insert, len}
use Rattle.pc_model.specs.Database.{Database}
use Rattle.pc_lines.specs.Lines.{is_key, is_value, lines_in}
use Rattle.pc_lines.specs.Words.{key_text_of, word_text}
use Rattle.pc_json.specs.JsonLines.{Pair, json_pair}
use Rattle.pc_types.specs.Keys.{key_of}
use Rattle.pc_pairs.specs.declared.form.Form.{Form}
use Rattle.pc_pairs.specs.declared.form.Form.TheVariants as form
use Rattle.pc_pairs.specs.declared.loading.Unloaded.{Unloaded}
use Rattle.pc_pairs.specs.declared.loading.Unloaded.TheVariants as unloaded
use Rattle.pc_pairs.specs.declared.reading.Fault.{Fault}
use Rattle.pc_pairs.specs.declared.reading.Fault.TheVariants as fault
use Rattle.pc_pairs.specs.declared.reading.PairLine.{PairLine}
use Rattle.pc_pairs.specs.declared.reading.PairLine.TheVariants as line

-- the name of a fault
abbrev pub fault_name : Fault → List ℕ
fault_name fault.Malformed = codes "Malformed"
fault_name fault.KeyLength = codes "KeyLength"
fault_name fault.ValueLength = codes "ValueLength"
fault_name fault.Twice = codes "Twice"

-- the pair of a key's and a value's bytes, where its words stand for some: the key is tested before the value
abbrev pub pair_of : Option (List ℕ) → Option (List ℕ) → PairLine
pair_of (Some key) (Some value) = if is_key key then (if is_value value then line.Pair key value else line.Bad fault.ValueLength) else line.Bad fault.KeyLength
pair_of key value = line.Bad fault.Malformed

-- the pair of a line whose first space is at this place: the key's word is before it, the value's word behind it
abbrev pub pair_around : List ℕ → Option ℕ → PairLine
pair_around text None = line.Bad fault.Malformed
pair_around text (Some at) = pair_of (key_text_of (take at text)) (word_text (drop (at + 1) text))

-- the pair of a line of words
abbrev pub words_pair : List ℕ → PairLine
words_pair text = pair_around text (position (λ b. b == 32) text)

-- the pair that a line of JSON tells, where it tells one
abbrev pub pair_of_json : Option Pair → PairLine
pair_of_json None = line.Bad fault.Malformed
pair_of_json (Some pair) = pair_of (Some (key_of pair.0 pair.1)) (Some pair.2)

-- the pair of a line
abbrev pub pair_in : Form → List ℕ → PairLine
pair_in form.Words text = words_pair text
pair_in form.Json text = pair_of_json (json_pair text)

-- the database with the pair of the line of this number, which has no key of an earlier line
abbrev pub with_line : Database → ℕ → PairLine → Result Database (ℕ × Fault)
with_line db number (line.Pair key value) = if is_some (get db key) then Err (number, fault.Twice) else Ok (insert db key value)
with_line db number (line.Bad why) = Err (number, why)

-- what follows on a database, where there is one
abbrev pub and_then : Result Database (ℕ × Fault) → (Database → Result Database (ℕ × Fault)) → Result Database (ℕ × Fault)
and_then (Ok db) next = next db
and_then (Err why) next = Err why

-- the database with the pairs of the lines from this number on, or the number of the first line at fault, and the fault
abbrev pub with_lines : Form → Database → ℕ → List (List ℕ) → Result Database (ℕ × Fault)
with_lines form db number [] = Ok db
with_lines form db number (text ∷ texts) = and_then (with_line db number (pair_in form text)) (λ next. with_lines form next (number + 1) texts)

-- the database of a text's lines
abbrev pub database_in : Form → List ℕ → Result Database (ℕ × Fault)
database_in form text = with_lines form empty 1 (lines_in text)

-- each byte of a key and of a value is one
abbrev pub HasBytes : List ℕ × List ℕ → Type 0
HasBytes pair = IsBytes pair.0 × IsBytes pair.1

-- a pair that a store can have: its key and its value are bytes, and within their limits
abbrev pub IsStorable : List ℕ × List ℕ → Type 0
IsStorable pair = IsPair pair × HasBytes pair

-- the base of this run with the database that there is, at point 0; none where it has more pairs than a base may have
abbrev pub IsLoaded : ℕ → Result Database (ℕ × Fault) → Option BaseFile → Type 0
IsLoaded run made None = (db : Database) × (made ≡ Ok db) × (MOST_FILE_ENTRIES < len db)
IsLoaded run made (Some base) = (base.run ≡ run) × (base.point ≡ 0) × (made ≡ Ok base.pairs)

-- there is no database for this: the first line at fault, or memory ran out
abbrev pub IsUnloaded : Result Database (ℕ × Fault) → Unloaded → Type 0
IsUnloaded made (unloaded.Line number why) = made ≡ Err (number, why)
IsUnloaded made unloaded.NoMemory = ⊤

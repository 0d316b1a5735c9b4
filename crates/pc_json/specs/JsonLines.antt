-- A pair as an object of JSON, and the pair of a line of JSON.
use Rattle.std.specs.Prelude.{ℕ, ◌==◌, nat_lt, List, length, Bool, Option, Some, None, option_and_then, option_map, unwrap_or, codes, if◌then◌else◌}
use Rattle.std.specs.Result.{result_ok}
use Rattle.std.specs.Str.{is_utf8}
use Rattle.base64.specs.Engines.{standard}
use Rattle.base64.specs.GeneralPurpose.{decode_of, encode_of}
use Rattle.json.specs.Json as json
use Rattle.json.specs.Json.{Json, document}
use Rattle.json.specs.Strict.{keys}
use Rattle.serde_json.specs.Data.{Data, Members, no_members, number, object, put, string, unsigned}
use Rattle.serde_json.specs.Events.{members_len}
use Rattle.serde_json.specs.Find.{as_number, as_object, as_str, as_u64, get}
use Rattle.serde_json.specs.Read.{read}
use Rattle.serde_json.specs.Written.{compact_text}
use Rattle.pc_json.specs.declared.reading.JsonPair.{JsonPair}

-- the number of a key's space, the key's own bytes, and the value's
abbrev pub Pair : Type 0
Pair = ℕ × List ℕ × List ℕ

-- the pair that was read
abbrev pub read_pair : JsonPair → Pair
read_pair pair = (pair.space, pair.own.items, pair.value.items)

-- ---- how a pair is written

-- the members with these bytes: as a text under the first name if they are UTF-8, otherwise in base64 under the second one
abbrev pub with_bytes : List ℕ → List ℕ → List ℕ → Members → Members
with_bytes name name64 bytes members = if is_utf8 bytes then put name (string bytes) members else put name64 (string (encode_of standard bytes)) members

-- the members with the number of a space, unless it is 0
abbrev pub with_space : ℕ → Members → Members
with_space space members = if space == 0 then members else put (codes "space") (number (unsigned space)) members

-- the object of a pair
abbrev pub json_of : ℕ → List ℕ → List ℕ → Data
json_of space own value = object (with_bytes (codes "value") (codes "value64") value (with_space space (with_bytes (codes "key") (codes "key64") own no_members)))

-- its line, without the line's end
abbrev pub json_text : ℕ → List ℕ → List ℕ → List ℕ
json_text space own value = compact_text (json_of space own value)

-- ---- how a line is read

-- the bytes of a member that is a text, or of the one that has them in base64; none if both are there, or neither
abbrev pub bytes_in : Option (List ℕ) → Option (List ℕ) → Option (List ℕ)
bytes_in (Some bytes) None = Some bytes
bytes_in None (Some text) = result_ok (decode_of standard text)
bytes_in plain encoded = None

-- a number of at most 65,535
abbrev pub space_number : ℕ → Option ℕ
space_number n = if nat_lt n 65536 then Some n else None

-- the number of a space; 0 if there is no member of it
abbrev pub space_member : Option Data → Option ℕ
space_member None = Some 0
space_member (Some found) = option_and_then space_number (option_and_then as_u64 (as_number found))

-- the greatest number of members: a key, a value and, if there is one, a space
abbrev pub most : Option Data → ℕ
most None = 2
most (Some found) = 3

-- the number of an object's members; 0 for any other value
abbrev pub member_count : Data → ℕ
member_count found = unwrap_or (option_map members_len (as_object found)) 0

-- all three, if all are there
abbrev pub whole_pair : Option ℕ → Option (List ℕ) → Option (List ℕ) → Option Pair
whole_pair (Some space) (Some own) (Some value) = Some (space, own, value)
whole_pair space own value = None

-- the text of the member of this name
abbrev pub text_under : List ℕ → Data → Option (List ℕ)
text_under name found = option_and_then as_str (get name found)

-- the bytes of the member of the first name, which has them as a text, or of the second, which has them in base64
abbrev pub bytes_under : List ℕ → List ℕ → Data → Option (List ℕ)
bytes_under name name64 found = bytes_in (text_under name found) (text_under name64 found)

-- the pair of an object
abbrev pub object_pair : Data → Option Pair
object_pair found =
    let space = get (codes "space") found in
    if member_count found == most space then whole_pair (space_member space) (bytes_under (codes "key") (codes "key64") found) (bytes_under (codes "value") (codes "value64") found) else None

-- how often the names of an object's members are written; 0 for any other value
abbrev pub names_in : Json → ℕ
names_in (json.object members) = length (keys members)
names_in other = 0

-- those of a text
abbrev pub names_written : List ℕ → ℕ
names_written text = unwrap_or (option_map names_in (document text)) 0

-- the pair of the object of a line, in which each name is written once
abbrev pub line_pair : List ℕ → Data → Option Pair
line_pair line found = if names_written line == member_count found then object_pair found else None

-- the pair of a line, which is JSON in UTF-8
abbrev pub json_pair : List ℕ → Option Pair
json_pair line = if is_utf8 line then option_and_then (line_pair line) (read line) else None

-- The fields of files, and how a text is read field by field, from left to right, with the first fault that is met.
use Rattle.std.specs.Prelude.{◌≡◌, ◌≢◌, ℕ, zero, suc, ◌+◌, ◌-◌, Bool, List, [], ◌∷◌, ◌++◌, length, take, drop, Option, Some, None, Result, Ok, Err, nat_lt, nat_le, nat_eq, ◌&&◌, if◌then◌else◌, ⊤}
use Rattle.std.specs.Cmp.Lexicographic.{pointwise}
use Rattle.std.specs.Int.{Width, w16, w32, byte_len, from_be_bytes, to_be_bytes}
use Rattle.pc_types.specs.declared.refusal.Refusal.{Refusal}
use Rattle.pc_types.specs.declared.refusal.Refusal.TheVariants.{OutOfMemory, Short, BadMagic, BadKind, BadLength}
use Rattle.pc_types.specs.declared.limits.TheConstants.{SPACE_BYTES, MOST_KEY_BYTES, MOST_VALUE_BYTES}
use Rattle.pc_io.specs.declared.formats.Format.{Format}
use Rattle.pc_io.specs.declared.formats.Format.TheVariants.{First, Second}
use Rattle.pc_types.specs.Keys.{space_of, own_bytes}

-- the bytes of a key after the length of its own bytes: format 01 leaves its space out
abbrev pub sized_key_text : Format → List ℕ → List ℕ
sized_key_text First key = own_bytes key
sized_key_text Second key = key

-- a key: the length of its own bytes, its space, and its own bytes
abbrev pub key_text_in : Format → List ℕ → List ℕ
key_text_in format key = to_be_bytes w16 (length key - SPACE_BYTES) ++ sized_key_text format key

-- the same as it is written, in format 02
abbrev pub key_text : List ℕ → List ℕ
key_text key = key_text_in Second key

-- the format has a text of the key: format 01 of those in space 0 alone
abbrev pub HasKey : Format → List ℕ → Type 0
HasKey First key = space_of key ≡ 0
HasKey Second key = ⊤

-- a value: its length, and its bytes
abbrev pub value_text : List ℕ → List ℕ
value_text value = to_be_bytes w32 (length value) ++ value

-- what a key has: nothing, or a value
abbrev pub content_text : Option (List ℕ) → List ℕ
content_text None = 0 ∷ []
content_text (Some value) = 1 ∷ value_text value

-- in order, as long as none has a fault
infixl 10 ◌>>=◌
abbrev pub ◌>>=◌ : {A B : Type 0} → Result A Refusal → (A → Result B Refusal) → Result B Refusal
(Ok x) >>= f = f x
(Err e) >>= f = Err e

-- what a call answered, seen by view, is what is read
abbrev pub Reads : {X Y : Type 0} → (X → Y) → Result X Refusal → Result Y Refusal → Type 0
Reads view (Ok x) read = read ≡ Ok (view x)
Reads view (Err e) read = read ≡ Err e

-- the same of a call that takes memory: it is what is read, or an allocation failed
abbrev pub Gives : {X Y : Type 0} → (X → Y) → Result X Refusal → Result Y Refusal → Type 0
Gives view (Ok x) read = read ≡ Ok (view x)
Gives view (Err e) read = e ≢ OutOfMemory → read ≡ Err e

-- the value if the test holds, else the fault
abbrev pub where_true : {A : Type 0} → Bool → Refusal → A → Result A Refusal
where_true test fault x = if test then Ok x else Err fault

-- A field is its value and the bytes after it. If the bytes end inside it, the fault is the one given.

-- that many bytes
abbrev pub bytes_at : Refusal → ℕ → List ℕ → Result (List ℕ × List ℕ) Refusal
bytes_at missing count bytes = if nat_lt (length bytes) count then Err missing else Ok (take count bytes, drop count bytes)

-- a number, its highest byte first
abbrev pub number_at : Refusal → Width → List ℕ → Result (ℕ × List ℕ) Refusal
number_at missing w bytes = if nat_lt (length bytes) (byte_len w) then Err missing else Ok (from_be_bytes w (take (byte_len w) bytes), drop (byte_len w) bytes)

-- the format of these bytes: 01 if they are the first magic, and 02 if the second
abbrev pub format_told : List ℕ → List ℕ → List ℕ → Result Format Refusal
format_told first second magic = if pointwise nat_eq magic second then Ok Second else where_true (pointwise nat_eq magic first) BadMagic First

-- the format of one of two magics of 8 bytes, and the bytes after it
unfoldable pub magic_at : List ℕ → List ℕ → List ℕ → Result (Format × List ℕ) Refusal
magic_at first second bytes = do
  magic ← bytes_at Short 8 bytes
  format ← format_told first second magic.0
  Ok (format, magic.1)

-- the number of bytes of a key besides its own
abbrev pub space_bytes : Format → ℕ
space_bytes First = 0
space_bytes Second = SPACE_BYTES

-- the key of the bytes after the length
abbrev pub key_behind : Format → List ℕ → List ℕ
key_behind First text = 0 ∷ 0 ∷ text
key_behind Second text = text

-- a key of that many bytes of its own
unfoldable pub sized_key_at : Format → Refusal → ℕ → List ℕ → Result (List ℕ × List ℕ) Refusal
sized_key_at format missing count bytes = do
  lawful ← where_true (nat_le 1 count && nat_le count MOST_KEY_BYTES) BadLength count
  text ← bytes_at missing (lawful + space_bytes format) bytes
  Ok (key_behind format text.0, text.1)

-- a key, the length of its own bytes before it
unfoldable pub key_at : Format → Refusal → List ℕ → Result (List ℕ × List ℕ) Refusal
key_at format missing bytes = do
  count ← number_at missing w16 bytes
  sized_key_at format missing count.0 count.1

-- a value, its length before it
unfoldable pub value_at : Refusal → List ℕ → Result (List ℕ × List ℕ) Refusal
value_at missing bytes = do
  count ← number_at missing w32 bytes
  lawful ← where_true (nat_le count.0 MOST_VALUE_BYTES) BadLength count.0
  bytes_at missing lawful count.1

-- what a key has
unfoldable pub content_at : Refusal → List ℕ → Result (Option (List ℕ) × List ℕ) Refusal
content_at missing [] = Err missing
content_at missing (zero ∷ rest) = Ok (None, rest)
content_at missing (suc zero ∷ rest) = do
  value ← value_at missing rest
  Ok (Some value.0, value.1)
content_at missing (suc (suc kind) ∷ rest) = Err BadKind

-- The effect of a write on its key: the key is set, removed, or a signed number is added to the one that it has.
use Rattle.std.specs.Option.{option_and_then}
use Rattle.std.specs.Prelude.{◌≡◌, ℕ, ◌==◌, ◌^◌, nat_lt, Bool, true, List, length, Option, Some, None, if◌then◌else◌, ℤ, pos, negsuc, ◌+ℤ◌}
use Rattle.std.specs.Int.{w64, to_be_bytes, from_be_bytes, cast_signed, cast_unsigned}
use Rattle.pc_types.specs.declared.changes.Change.{Change}
use Rattle.pc_types.specs.declared.changes.Change.TheVariants.{Set, Remove, Add}

-- the number has 64 bits with a sign
abbrev pub fits_i64 : ℤ → Bool
fits_i64 (pos n) = nat_lt n (2 ^ 63)
fits_i64 (negsuc n) = nat_lt n (2 ^ 63)

-- the value that represents a number: its eight bytes in two's complement, the highest first
unfoldable pub number_text : ℤ → List ℕ
number_text z = to_be_bytes w64 (cast_unsigned w64 z)

-- the number that eight bytes represent
unfoldable pub value_number : List ℕ → ℤ
value_number value = cast_signed w64 (from_be_bytes w64 value)

-- the number that a key has: that of a value of eight bytes, 0 of nothing, and none of any other value
unfoldable pub content_number : Option (List ℕ) → Option ℤ
content_number None = Some (pos 0)
content_number (Some value) = if length value == 8 then Some (value_number value) else None

-- the sum of two numbers, if it fits
abbrev pub sum_of : ℤ → ℤ → Option ℤ
sum_of a b = if fits_i64 (a +ℤ b) then Some (a +ℤ b) else None

-- what an add makes of what the key has: the new number, or none if it has no number or the sum doesn't fit
abbrev pub added : ℤ → Option (List ℕ) → Option ℤ
added d there = option_and_then (λ n. sum_of n d) (content_number there)

-- the value of this number, or else what was there
abbrev pub or_same : Option (List ℕ) → Option ℤ → Option (List ℕ)
or_same there None = there
or_same there (Some n) = Some (number_text n)

-- what a key has after a change of what it had; an add that doesn't apply leaves what was there
abbrev pub changed_content : Change → Option (List ℕ) → Option (List ℕ)
changed_content (Set value) there = Some value
changed_content Remove there = None
changed_content (Add d) there = or_same there (added d there)

-- the change that leaves the key with this content, whatever it had
abbrev pub change_to : Option (List ℕ) → Change
change_to None = Remove
change_to (Some value) = Set value

-- A change after an earlier one of its key, as one change: an add after a value or a removal leaves what the add makes of that, and
-- two adds add the sum of both numbers.
abbrev pub merged : Change → Change → Change
merged before (Set value) = Set value
merged before Remove = Remove
merged (Set value) (Add d) = change_to (changed_content (Add d) (Some value))
merged Remove (Add d) = change_to (changed_content (Add d) None)
merged (Add e) (Add d) = Add (e +ℤ d)

-- whether an add can be kept as one change with the earlier change of its key, if there is one: the sum of two adds must fit
abbrev pub can_add : Option Change → ℤ → Bool
can_add (Some (Add e)) d = fits_i64 (e +ℤ d)
can_add before d = true

-- the change can be kept as one with the earlier change of its key, if there is one
abbrev pub CanMerge : Option Change → Change → Type 0
CanMerge before (Add d) = can_add before d ≡ true
CanMerge before other = Unit {0}

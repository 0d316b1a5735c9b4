-- The place of the fault of a text.
use Rattle.std.specs.Prelude.{◌≡◌, ◌≤◌, ℕ, suc, Bool, true, false, List, length, take, Option, Some, None, Result, Ok, Err}
use Rattle.pc_types.specs.declared.refusal.Refusal.{Refusal}
use Rattle.pc_types.specs.declared.refusal.Refusal.TheVariants.{Short}
use Rattle.pc_part.specs.Reading.{part_at}
use Rattle.pc_bases.specs.Reading.{base_at}
use Rattle.pc_faults.specs.declared.texts.TextKind.{TextKind}
use Rattle.pc_faults.specs.declared.texts.TextKind.TheVariants as kind

-- what a reading refuses with, if it does
abbrev pub refusal_in : {A : Type 0} → Result A Refusal → Option Refusal
refusal_in (Ok found) = None
refusal_in (Err why) = Some why

-- the fault of bytes that are read as a text of this kind
unfoldable pub fault_at : TextKind → List ℕ → Option Refusal
fault_at kind.Part bytes = refusal_in (part_at bytes)
fault_at kind.Base bytes = refusal_in (base_at bytes)

-- it is that the bytes are too few
abbrev pub is_short : Option Refusal → Bool
is_short (Some Short) = true
is_short other = false

-- The first `count` bytes alone aren't too few for a text of this kind, and one byte fewer are: what ends the text, or is wrong with it,
-- is seen with the last of them.
pub record IsSeenWith (kind : TextKind) (bytes : List ℕ) (count : ℕ) : Type 0 where
  pub within : count ≤ length bytes
  pub seen : is_short (fault_at kind (take count bytes)) ≡ false
  pub before : (fewer : ℕ) → suc fewer ≡ count → is_short (fault_at kind (take fewer bytes)) ≡ true

-- The bytes have this fault. If they are too few it is seen after all of them, else with the last byte of the given number.
pub record IsFaultOf (kind : TextKind) (bytes : List ℕ) (count : ℕ) (why : Refusal) : Type 0 where
  pub whole : fault_at kind bytes ≡ Some why
  pub short : is_short (fault_at kind bytes) ≡ true → count ≡ length bytes
  pub seen : is_short (fault_at kind bytes) ≡ false → IsSeenWith kind bytes count

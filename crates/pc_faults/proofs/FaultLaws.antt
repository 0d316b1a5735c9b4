-- Laws of the faults of texts.
use Rattle.std.proofs.Common.{◌≡◌, ◌<◌, ◌∙◌, ℕ, true, false, true≢false, List, [], ◌∷◌, length, refl, sym, arith}
use Rattle.pc_io.specs.Fields.{magic_at}
use Rattle.pc_part.specs.Reading.{part_header_at, part_fields_at}
use Rattle.pc_bases.specs.Reading.{base_fields_at}
use Rattle.pc_faults.specs.declared.texts.TextKind.{TextKind}
use Rattle.pc_faults.specs.declared.texts.TextKind.TheVariants as kind
use Rattle.pc_faults.specs.Faults.{fault_at, is_short}

-- no bytes are too few for a text of either kind
pub nothing_is_short : (kind : TextKind) → is_short (fault_at kind []) ≡ true
unfolding fault_at part_fields_at base_fields_at part_header_at magic_at
nothing_is_short kind.Part = refl
nothing_is_short kind.Base = refl

-- so those that aren't are some
pub others_are_some : (kind : TextKind) (bytes : List ℕ) → is_short (fault_at kind bytes) ≡ false → 0 < length bytes
others_are_some kind [] is = absurd (true≢false (sym (nothing_is_short kind) ∙ is))
others_are_some kind (b ∷ bytes) is = omega arith

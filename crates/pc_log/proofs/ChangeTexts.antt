-- The change of a write that was read is its text, and what was written of a change is read again.
use Rattle.std.proofs.Common.{◌≡◌, ℕ, zero, suc, ◌^◌, ◌≤◌, true, List, [], ◌∷◌, ◌++◌, length, Result, Ok, refl, sym, ap, subst, ◌∙◌, arith}
use Rattle.std.specs.Prelude.{ℤ, FitsSigned}
use Rattle.std.specs.Int.{w64, to_be_bytes, cast_signed, cast_unsigned}
use Rattle.std.proofs.lemmas.Int.{ints, of_z-to_z, to_z-of_z}
use Rattle.pc_types.specs.declared.refusal.Refusal.{Refusal}
use Rattle.pc_types.specs.declared.refusal.Refusal.TheVariants.{BadLength}
use Rattle.pc_types.specs.declared.Change.{Change}
use Rattle.pc_types.specs.declared.Change.TheVariants.{Set, Remove, Add}
use Rattle.pc_types.specs.Changes.{fits_i64, number_text}
use Rattle.pc_io.specs.Fields.{◌>>=◌, number_at, value_at, value_text}
use Rattle.pc_types.specs.Bytes.{IsBytes}
use Rattle.pc_io.specs.FieldForms.{TakesText}
use Rattle.pc_types.proofs.ByteLaws.{IsBytes-rest}
use Rattle.pc_io.proofs.FieldLaws.{ok_is, wide64, number_takes, number_again, value_takes, value_again}
use Rattle.pc_types.proofs.NumberLaws.{fits_is, is_fit, small}
use Rattle.pc_log.specs.Texts.{change_text, IsChange}
use Rattle.pc_log.specs.Reading.{change_at}
use Rattle.pc_log.proofs.StepLaws.{made_ok}

pub TakesText-front : (b : ℕ) (bytes text rest : List ℕ) → TakesText bytes text rest → TakesText (b ∷ bytes) (b ∷ text) rest
TakesText-front b bytes text rest t = record { parts = ap (λ (bs : List ℕ). b ∷ bs) t.parts; rest_fits = t.rest_fits }

-- ---- what was read

-- the change in front of the bytes
abbrev pub ChangeTakes : List ℕ → Change × List ℕ → Type 0
ChangeTakes bytes x = TakesText bytes (change_text x.0) x.1 × IsChange x.0

signed_fits : (n : ℕ) → FitsSigned w64 (cast_signed w64 n)
signed_fits n = omega (arith, ints)

pub change_takes : (bytes : List ℕ) (change : Change) (rest : List ℕ) → IsBytes bytes → change_at bytes ≡ Ok (change, rest) → ChangeTakes bytes (change, rest)
unfolding change_at number_text
change_takes [] change rest fits e = absurd cc
change_takes (zero ∷ bytes) change rest fits e = subst (ChangeTakes (0 ∷ bytes)) (ok_is (Remove, bytes) (change, rest) e) (record { parts = refl; rest_fits = IsBytes-rest 0 bytes fits }, tt)
change_takes (suc zero ∷ bytes) change rest fits e =
    let b = made_ok (value_at BadLength bytes) (λ (value : List ℕ × List ℕ). (Set value.0, value.1)) (change, rest) e in
    let t = value_takes BadLength bytes b.0.0 b.0.1 (IsBytes-rest 1 bytes fits) b.1 in
    subst (ChangeTakes (1 ∷ bytes)) b.2 (TakesText-front 1 bytes (value_text b.0.0) b.0.1 t.0, t.1)
change_takes (suc (suc zero) ∷ bytes) change rest fits e =
    let b = made_ok (number_at BadLength w64 bytes) (λ (number : ℕ × List ℕ). (Add (cast_signed w64 number.0), number.1)) (change, rest) e in
    let t = number_takes BadLength w64 (2 ^ 64) wide64 bytes b.0.0 b.0.1 (IsBytes-rest 2 bytes fits) b.1 in
    let same : TakesText bytes (number_text (cast_signed w64 b.0.0)) b.0.1 = subst (λ (k : ℕ). TakesText bytes (to_be_bytes w64 k) b.0.1) (sym (of_z-to_z w64 b.0.0 t.1)) t.0 in
    subst (ChangeTakes (2 ∷ bytes)) b.2 (TakesText-front 2 bytes (number_text (cast_signed w64 b.0.0)) b.0.1 same, is_fit (cast_signed w64 b.0.0) (signed_fits b.0.0))
change_takes (suc (suc (suc kind)) ∷ bytes) change rest fits e = absurd cc

-- ---- what was written

-- a number was added, and these bytes are left
abbrev added_and : List ℕ → ℤ → Result (Change × List ℕ) Refusal
added_and rest d = Ok (Add d, rest)

number_back : (d : ℤ) (rest : List ℕ) → fits_i64 d ≡ true → (number_at BadLength w64 (number_text d ++ rest) >>= λ number. added_and number.1 (cast_signed w64 number.0)) ≡ added_and rest d
unfolding number_text
number_back d rest fit =
    let inside = fits_is d fit in
    ap (λ (r : Result (ℕ × List ℕ) Refusal). r >>= λ number. added_and number.1 (cast_signed w64 number.0)) (number_again BadLength w64 (2 ^ 64) wide64 (cast_unsigned w64 d) rest (small d inside))
    ∙ ap (added_and rest) (to_z-of_z w64 d inside)

-- the text of a change is read as that change
pub change_again : (change : Change) (rest : List ℕ) → IsChange change → change_at (change_text change ++ rest) ≡ Ok (change, rest)
unfolding change_at
change_again Remove rest limit = refl
change_again (Set value) rest limit = rw (value_again BadLength value rest limit) refl
change_again (Add d) rest limit = number_back d rest limit

-- a number has eight bytes
pub number_length : (d : ℤ) → length (number_text d) ≡ 8
unfolding number_text
number_length d = refl

-- the text of a change is at most as long as that of the longest value
pub change_length : (change : Change) → IsChange change → length (change_text change) ≤ 65540
change_length Remove limit = omega arith
change_length (Set value) limit = omega (arith, limit)
change_length (Add d) limit = omega (arith, number_length d)

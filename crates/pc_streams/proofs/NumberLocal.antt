-- A number is read of longer bytes as of these, unless these end too soon.
use Rattle.std.proofs.Common.{◌≡◌, ◌≤◌, ℕ, Bool, true, false, cond, ltb, List, ◌++◌, length, take, drop, Ok, Err, sym, ap, ◌∙◌, ◌⊎◌, inl, arith}
use Rattle.std.proofs.lemmas.List.{length-append, take-append-le, drop-append-le, take-append-drop}
use Rattle.std.proofs.lemmas.Bool.{ltb-false, le-ltb}
use Rattle.std.specs.Int.{Width, byte_len, from_be_bytes}
use Rattle.pc_types.specs.declared.Refusal.{Refusal}
use Rattle.pc_types.specs.declared.Refusal.TheVariants.{Short}
use Rattle.pc_io.specs.Fields.{number_at}
use Rattle.pc_io.proofs.FieldLaws.{guard_ok}
use Rattle.pc_part.specs.RoundTrips.{IsLocal}

abbrev front : Width → List ℕ → ℕ × List ℕ
front w bytes = (from_be_bytes w (take (byte_len w) bytes), drop (byte_len w) bytes)

short_alone : (t : Bool) (p : ℕ × List ℕ) (f : Refusal) → cond t (Err Short) (Ok p) ≡ Err f → f ≡ Short
short_alone true p f is = let same : Short ≡ f = cc in sym same
short_alone false p f is = cc

-- there are enough bytes, and what is read is their front
guarded : (w : Width) (bytes : List ℕ) (y : ℕ) (rest : List ℕ) → number_at Short w bytes ≡ Ok (y, rest) → (ltb (length bytes) (byte_len w) ≡ false) × (front w bytes ≡ (y, rest))
guarded w bytes y rest is = guard_ok (ltb (length bytes) (byte_len w)) Short (front w bytes) (y, rest) is

-- so the rest is after a text
pub number_back : (w : Width) (bytes : List ℕ) (y : ℕ) (rest : List ℕ) → number_at Short w bytes ≡ Ok (y, rest) → (text : List ℕ) × (bytes ≡ text ++ rest)
number_back w bytes y rest is =
    (take (byte_len w) bytes, sym (take-append-drop (byte_len w) bytes) ∙ ap (λ (p : ℕ × List ℕ). take (byte_len w) bytes ++ p.1) (guarded w bytes y rest is).1)

pub number_local : (w : Width) → IsLocal (number_at Short w)
number_local w = record { back = number_back w; ok = ok; err = err }
  where
    ok : (bytes more : List ℕ) (y : ℕ) (rest : List ℕ) → number_at Short w bytes ≡ Ok (y, rest) → number_at Short w (bytes ++ more) ≡ Ok (y, rest ++ more)
    ok bytes more y rest is =
        let g = guarded w bytes y rest is in
        let long : byte_len w ≤ length bytes = ltb-false (length bytes) (byte_len w) g.0 in
        let longer : ltb (length (bytes ++ more)) (byte_len w) ≡ false = le-ltb _ _ (omega (arith, long, length-append bytes more)) in
        rw (longer, take-append-le (byte_len w) bytes more long, drop-append-le (byte_len w) bytes more long) (ap (λ (p : ℕ × List ℕ). Ok (p.0, p.1 ++ more)) g.1)

    err : (bytes more : List ℕ) (f : Refusal) → number_at Short w bytes ≡ Err f → (f ≡ Short) ⊎ (number_at Short w (bytes ++ more) ≡ Err f)
    err bytes more f is = inl (short_alone (ltb (length bytes) (byte_len w)) (front w bytes) f is)

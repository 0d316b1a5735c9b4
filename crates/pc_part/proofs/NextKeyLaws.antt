-- What is read of a key is what was written, and what was written is read again.
use Rattle.std.proofs.Common.{◌≡◌, ℕ, ◌+◌, ◌-◌, true, List, ◌++◌, length, Ok, refl, subst, arith}
use Rattle.std.specs.Ordering.{is_lt}
use Rattle.std.specs.Int.{w16, to_be_bytes}
use Rattle.pc_types.specs.declared.Refusal.TheVariants.{Short, KeyOrder}
use Rattle.pc_types.specs.Limits.{IsKey}
use Rattle.pc_io.specs.declared.formats.Format.{Format}
use Rattle.pc_io.specs.Fields.{where_true, sized_key_at, key_text_in, sized_key_text, HasKey}
use Rattle.pc_io.proofs.FieldLaws.{bind_ok, where_ok, TakesText-then, sized_key_takes, sized_key_again}
use Rattle.pc_types.specs.Bytes.{IsBytes}
use Rattle.pc_io.specs.FieldForms.{TakesText}
use Rattle.pc_model.specs.Database.{key_cmp}
use Rattle.pc_part.specs.Reading.{next_key_at}

pub key_takes : (format : Format) (last : List ℕ) (count : ℕ) (bytes : List ℕ) (x : List ℕ × List ℕ) → IsBytes bytes → next_key_at format last count bytes ≡ Ok x
    → TakesText bytes (sized_key_text format x.0) x.1 × (length x.0 ≡ count + 2) × IsKey x.0 × HasKey format x.0 × (is_lt (key_cmp last x.0) ≡ true)
unfolding next_key_at
key_takes format last count bytes x fits e =
    let a = bind_ok (sized_key_at format Short count bytes) (λ key. where_true (is_lt (key_cmp last key.0)) KeyOrder key) x e in
    let t = sized_key_takes format Short count bytes a.0.0 a.0.1 fits a.1 in
    let g = where_ok (is_lt (key_cmp last a.0.0)) KeyOrder a.0 x a.2 in
    subst (λ (y : List ℕ × List ℕ). TakesText bytes (sized_key_text format y.0) y.1 × (length y.0 ≡ count + 2) × IsKey y.0 × HasKey format y.0 × (is_lt (key_cmp last y.0) ≡ true)) {x = a.0} g.1 (t.0, t.1, t.2, t.3, g.0)

-- with its length before it, it is the key's text
pub key_text_takes : (format : Format) (bytes : List ℕ) (count : ℕ) (behind key rest : List ℕ) → TakesText bytes (to_be_bytes w16 count) behind → TakesText behind (sized_key_text format key) rest → length key ≡ count + 2 → TakesText bytes (key_text_in format key) rest
key_text_takes format bytes count behind key rest len text is =
    let same : count ≡ length key - 2 = omega (arith, is) in
    TakesText-then bytes (to_be_bytes w16 (length key - 2)) behind (sized_key_text format key) rest (subst (λ (n : ℕ). TakesText bytes (to_be_bytes w16 n) behind) same len) text

pub key_again : (format : Format) (last key rest : List ℕ) → IsKey key → HasKey format key → is_lt (key_cmp last key) ≡ true → next_key_at format last (length key - 2) (sized_key_text format key ++ rest) ≡ Ok (key, rest)
unfolding next_key_at
key_again format last key rest is_key has above = rw (sized_key_again format Short key rest is_key has, above) refl

-- A field that is read is the field that was written, and what was written is read again.
use Rattle.std.proofs.Common.{◌≡◌, ℕ, zero, suc, ◌+◌, ◌*◌, ◌^◌, ◌<◌, ◌≤◌, Bool, true, false, cond, ltb, List, [], ◌∷◌, ◌++◌, length, take, drop, Option, Some, None, Result, Ok, Err, refl, sym, ap, subst, ◌∙◌, append_assoc, arith}
use Rattle.std.specs.Prelude.{IfSome, ◌-◌, nat_eq, nat_le, ◌&&◌, if◌then◌else◌}
use Rattle.std.specs.Cmp.Lexicographic.{pointwise, same_text}
use Rattle.std.proofs.lemmas.Cmp.{nat_list_eq_equiv}
use Rattle.std.proofs.lemmas.Bool.Decides.{nat_tests}
use Rattle.std.specs.Int.{Width, w16, w32, w64, byte_len, from_be_bytes, to_be_bytes}
use Rattle.std.proofs.lemmas.Bool.{ltb-false, le-ltb}
use Rattle.std.proofs.lemmas.List.{take_at, drop_at, take-append-drop, length-append, length-take}
use Rattle.std.proofs.lemmas.Nat.{be_bytes_2, be_bytes_4, be_bytes_8, from_be_bytes-to_be_bytes_2, from_be_bytes-to_be_bytes_4, from_be_bytes-to_be_bytes_8}
use Rattle.pc_types.specs.declared.refusal.Refusal.{Refusal}
use Rattle.pc_types.specs.declared.refusal.Refusal.TheVariants.{Short, BadLength, BadMagic}
use Rattle.pc_types.specs.Limits.{IsKey, IsValue}
use Rattle.pc_io.specs.declared.formats.Format.{Format}
use Rattle.pc_io.specs.declared.formats.Format.TheVariants.{First, Second}
use Rattle.pc_io.specs.Fields.{◌>>=◌, where_true, bytes_at, number_at, format_told, magic_at, sized_key_at, key_at, value_at, content_at, sized_key_text, key_text_in, HasKey, space_bytes, key_behind, value_text, content_text}
use Rattle.pc_types.specs.Bytes.{IsBytes}
use Rattle.pc_io.specs.FieldForms.{TakesText, IsWide}
use Rattle.pc_types.proofs.ByteLaws.{IsBytes-drop, IsBytes-take, IsBytes-rest}

-- the value of a step that did not fail
pub bind_ok : {A B : Type 0} (r : Result A Refusal) (f : A → Result B Refusal) (y : B) → (r >>= f) ≡ Ok y → (x : A) × (r ≡ Ok x) × (f x ≡ Ok y)
bind_ok (Ok x) f y e = (x, refl, e)
bind_ok (Err d) f y e = absurd cc

-- a test that did not fail: what it kept out did not hold
pub guard_ok : {A : Type 0} (b : Bool) (d : Refusal) (x y : A) → cond b (Err d) (Ok x) ≡ Ok y → (b ≡ false) × (x ≡ y)
guard_ok true d x y e = absurd cc
guard_ok false d x y e = (refl, cc)

-- the same of one that asks for what must hold
pub where_ok : {A : Type 0} (b : Bool) (d : Refusal) (x y : A) → where_true b d x ≡ Ok y → (b ≡ true) × (x ≡ y)
where_ok true d x y e = (refl, cc)
where_ok false d x y e = absurd cc

abbrev done : {A : Type 0} → A → Result A Refusal
done x = Ok x

pub ok_is : {A : Type 0} (x y : A) → done x ≡ done y → x ≡ y
ok_is x y e = cc

pub TakesText-then : (a x b y c : List ℕ) → TakesText a x b → TakesText b y c → TakesText a (x ++ y) c
TakesText-then a x b y c p q = record { parts = p.parts ∙ ap (λ (t : List ℕ). x ++ t) q.parts ∙ sym (append_assoc x y c); rest_fits = q.rest_fits }

-- ---- that many bytes

pub bytes_take : (missing : Refusal) (count : ℕ) (bytes text rest : List ℕ) → IsBytes bytes → bytes_at missing count bytes ≡ Ok (text, rest) → TakesText bytes text rest × (length text ≡ count)
bytes_take missing count bytes text rest fits e =
    let g = guard_ok (ltb (length bytes) count) missing (take count bytes, drop count bytes) (text, rest) e in
    let long : count ≤ length bytes = ltb-false _ _ g.0 in
    let len : length (take count bytes) ≡ count = omega (arith, length-take count bytes) in
    subst (λ (p : List ℕ × List ℕ). TakesText bytes p.0 p.1 × (length p.0 ≡ count)) g.1 (record { parts = sym (take-append-drop count bytes); rest_fits = IsBytes-drop count bytes fits }, len)

pub bytes_again : (missing : Refusal) (text rest : List ℕ) → bytes_at missing (length text) (text ++ rest) ≡ Ok (text, rest)
bytes_again missing text rest =
    let long : ltb (length (text ++ rest)) (length text) ≡ false = le-ltb _ _ (omega (arith, length-append text rest)) in
    rw (long, take_at text rest (length text) refl, drop_at text rest (length text) refl) refl

-- ---- numbers

pub wide16 : IsWide w16 (2 ^ 16)
wide16 = record {
  len = λ n. refl;
  back = λ bytes len fits. be_bytes_2 bytes _ len fits refl;
  again = λ n lt. from_be_bytes-to_be_bytes_2 n lt;
  below = λ bytes fits. omega (arith, fits 0, fits 1);
}

pub wide32 : IsWide w32 (2 ^ 32)
wide32 = record {
  len = λ n. refl;
  back = λ bytes len fits. be_bytes_4 bytes _ len fits refl;
  again = λ n lt. from_be_bytes-to_be_bytes_4 n lt;
  below = λ bytes fits. omega (arith, fits 0, fits 1, fits 2, fits 3);
}

pub wide64 : IsWide w64 (2 ^ 64)
wide64 = record {
  len = λ n. refl;
  back = λ bytes len fits. be_bytes_8 bytes _ len fits refl;
  again = λ n lt. from_be_bytes-to_be_bytes_8 n lt;
  below = λ bytes fits. omega (arith, fits 0, fits 1, fits 2, fits 3, fits 4, fits 5, fits 6, fits 7);
}

pub number_takes : (missing : Refusal) (w : Width) (limit : ℕ) (wide : IsWide w limit) (bytes : List ℕ) (n : ℕ) (rest : List ℕ) → IsBytes bytes → number_at missing w bytes ≡ Ok (n, rest) → TakesText bytes (to_be_bytes w n) rest × (n < limit)
number_takes missing w limit wide bytes n rest fits e =
    let g = guard_ok (ltb (length bytes) (byte_len w)) missing (from_be_bytes w (take (byte_len w) bytes), drop (byte_len w) bytes) (n, rest) e in
    let long : byte_len w ≤ length bytes = ltb-false _ _ g.0 in
    let n-is : from_be_bytes w (take (byte_len w) bytes) ≡ n = ap (λ (p : ℕ × List ℕ). p.0) g.1 in
    let rest-is : drop (byte_len w) bytes ≡ rest = ap (λ (p : ℕ × List ℕ). p.1) g.1 in
    let front : to_be_bytes w n ≡ take (byte_len w) bytes = rw (← n-is) (wide.back (take (byte_len w) bytes) (omega (arith, length-take (byte_len w) bytes)) (IsBytes-take (byte_len w) bytes fits)) in
    (record { parts = rw (front, ← rest-is) (sym (take-append-drop (byte_len w) bytes)); rest_fits = rw (← rest-is) (IsBytes-drop (byte_len w) bytes fits) }, rw (← n-is) (wide.below (take (byte_len w) bytes) (IsBytes-take (byte_len w) bytes fits)))

pub number_again : (missing : Refusal) (w : Width) (limit : ℕ) (wide : IsWide w limit) (n : ℕ) (rest : List ℕ) → n < limit → number_at missing w (to_be_bytes w n ++ rest) ≡ Ok (n, rest)
number_again missing w limit wide n rest lt =
    let len = wide.len n in
    let long : ltb (length (to_be_bytes w n ++ rest)) (byte_len w) ≡ false = le-ltb _ _ (omega (arith, length-append (to_be_bytes w n) rest)) in
    rw (long, take_at (to_be_bytes w n) rest (byte_len w) len, drop_at (to_be_bytes w n) rest (byte_len w) len, wide.again n lt) refl

-- ---- magics

-- the magic of a format, of these two
abbrev pub told : Format → List ℕ → List ℕ → List ℕ
told First first second = first
told Second first second = second

-- the bytes tell the format whose magic they are
format_is : (first second magic : List ℕ) (format : Format) → format_told first second magic ≡ Ok format → magic ≡ told format first second
format_is first second magic format e = by (pointwise nat_eq magic second) refl (subst (λ (b : Bool). told_by b ≡ Ok format) refl e)
  where
    told_by : Bool → Result Format Refusal
    told_by b = if b then Ok Second else where_true (pointwise nat_eq magic first) BadMagic First

    by : (b : Bool) → pointwise nat_eq magic second ≡ b → told_by b ≡ Ok format → magic ≡ told format first second
    by true same is = subst (λ (f : Format). magic ≡ told f first second) (ok_is Second format is) (same_text magic second (sym same))
    by false other is =
        let g = where_ok (pointwise nat_eq magic first) BadMagic First format is in
        subst (λ (f : Format). magic ≡ told f first second) g.1 (same_text magic first (sym g.0))

-- the magic of a format tells it, where the two magics differ
format_again : (first second : List ℕ) (format : Format) → pointwise nat_eq first second ≡ false → format_told first second (told format first second) ≡ Ok format
format_again first second First apart = let same : pointwise nat_eq first first ≡ true = nat_list_eq_equiv.refl first in rw (apart, same) refl
format_again first second Second apart = let same : pointwise nat_eq second second ≡ true = nat_list_eq_equiv.refl second in rw same refl

pub magic_takes : (first second bytes : List ℕ) (format : Format) (rest : List ℕ) → IsBytes bytes → magic_at first second bytes ≡ Ok (format, rest) → TakesText bytes (told format first second) rest
unfolding magic_at
magic_takes first second bytes format rest fits e =
    let b = bind_ok (bytes_at Short 8 bytes) (λ magic. format_told first second magic.0 >>= λ known. Ok (known, magic.1)) (format, rest) e in
    let t = bytes_take Short 8 bytes b.0.0 b.0.1 fits b.1 in
    let f = bind_ok (format_told first second b.0.0) (λ known. Ok (known, b.0.1)) (format, rest) b.2 in
    let is : (f.0, b.0.1) ≡ (format, rest) = ok_is (f.0, b.0.1) (format, rest) f.2 in
    let magic = format_is first second b.0.0 f.0 f.1 in
    subst (λ (x : Format × List ℕ). TakesText bytes (told x.0 first second) x.1) is (subst (λ (m : List ℕ). TakesText bytes m b.0.1) magic t.0)

pub magic_again : (first second : List ℕ) (format : Format) (rest : List ℕ) → pointwise nat_eq first second ≡ false → length (told format first second) ≡ 8 → magic_at first second (told format first second ++ rest) ≡ Ok (format, rest)
unfolding magic_at
magic_again first second format rest apart len =
    let magic = told format first second in
    let front : bytes_at Short 8 (magic ++ rest) ≡ Ok (magic, rest) = subst (λ (n : ℕ). bytes_at Short n (magic ++ rest) ≡ Ok (magic, rest)) len (bytes_again Short magic rest) in
    rw (front, format_again first second format apart) refl

-- ---- keys, values and contents

-- the bytes after the length of a key that the format has, and the key after it
key_is_behind : (format : Format) (key : List ℕ) → IsKey key → HasKey format key → key_behind format (sized_key_text format key) ≡ key
key_is_behind Second key is_key has = refl
key_is_behind First [] is_key has = absurd (let long : 3 ≤ 0 = is_key.0 in omega arith)
key_is_behind First (h ∷ []) is_key has = absurd (let long : 3 ≤ 1 = is_key.0 in omega arith)
key_is_behind First (h ∷ l ∷ own) is_key has =
    let space : h * 256 + l ≡ 0 = has in
    let high : h ≡ 0 = omega (arith, space) in
    let low : l ≡ 0 = omega (arith, space) in
    rw (high, low) refl

sized_length : (format : Format) (key : List ℕ) → IsKey key → length (sized_key_text format key) ≡ (length key - 2) + space_bytes format
sized_length Second key is_key = omega (arith, is_key.0)
sized_length First [] is_key = refl
sized_length First (h ∷ []) is_key = refl
sized_length First (h ∷ l ∷ own) is_key = omega arith

-- what was read after a length: a key whose text it is
made : (format : Format) (count : ℕ) (text : List ℕ) → 1 ≤ count → count ≤ 255 → length text ≡ count + space_bytes format
    → (sized_key_text format (key_behind format text) ≡ text) × (length (key_behind format text) ≡ count + 2) × IsKey (key_behind format text) × HasKey format (key_behind format text)
made First count text few many len = (refl, omega (arith, len), (omega (arith, len, few), omega (arith, len, many)), refl)
made Second count text few many len = (refl, len, (omega (arith, len, few), omega (arith, len, many)), tt)

pub sized_key_takes : (format : Format) (missing : Refusal) (count : ℕ) (bytes key rest : List ℕ) → IsBytes bytes → sized_key_at format missing count bytes ≡ Ok (key, rest)
    → TakesText bytes (sized_key_text format key) rest × (length key ≡ count + 2) × IsKey key × HasKey format key
unfolding sized_key_at
sized_key_takes format missing count bytes key rest fits e =
    let b = bind_ok (where_true (nat_le 1 count && nat_le count 255) BadLength count) (λ lawful. bytes_at missing (lawful + space_bytes format) bytes >>= λ text. Ok (key_behind format text.0, text.1)) (key, rest) e in
    let g = where_ok (nat_le 1 count && nat_le count 255) BadLength count b.0 b.1 in
    let d = bind_ok (bytes_at missing (b.0 + space_bytes format) bytes) (λ text. Ok (key_behind format text.0, text.1)) (key, rest) b.2 in
    let t = bytes_take missing (b.0 + space_bytes format) bytes d.0.0 d.0.1 fits d.1 in
    let limits : (1 ≤ count) × (count ≤ 255) = grind (arith, g.0, nat_tests) in
    let is : (key_behind format d.0.0, d.0.1) ≡ (key, rest) = ok_is (key_behind format d.0.0, d.0.1) (key, rest) d.2 in
    let m = made format count d.0.0 limits.0 limits.1 (t.1 ∙ ap (λ (n : ℕ). n + space_bytes format) (sym g.1)) in
    subst (λ (x : List ℕ × List ℕ). TakesText bytes (sized_key_text format x.0) x.1 × (length x.0 ≡ count + 2) × IsKey x.0 × HasKey format x.0) {x = (key_behind format d.0.0, d.0.1)} {y = (key, rest)} is
    (subst (λ (x : List ℕ). TakesText bytes x d.0.1) (sym m.0) t.0, m.1, m.2, m.3)

pub sized_key_again : (format : Format) (missing : Refusal) (key rest : List ℕ) → IsKey key → HasKey format key → sized_key_at format missing (length key - 2) (sized_key_text format key ++ rest) ≡ Ok (key, rest)
unfolding sized_key_at
sized_key_again format missing key rest is_key has =
    let lawful : (nat_le 1 (length key - 2) && nat_le (length key - 2) 255) ≡ true = grind (arith, is_key, nat_tests) in
    let text = sized_key_text format key in
    let found : bytes_at missing ((length key - 2) + space_bytes format) (text ++ rest) ≡ Ok (text, rest) =
    subst (λ (n : ℕ). bytes_at missing n (text ++ rest) ≡ Ok (text, rest)) (sized_length format key is_key) (bytes_again missing text rest) in
    rw (lawful, found, key_is_behind format key is_key has) refl

pub key_takes : (format : Format) (missing : Refusal) (bytes key rest : List ℕ) → IsBytes bytes → key_at format missing bytes ≡ Ok (key, rest) → TakesText bytes (key_text_in format key) rest × IsKey key × HasKey format key
unfolding key_at
key_takes format missing bytes key rest fits e =
    let b = bind_ok (number_at missing w16 bytes) (λ count. sized_key_at format missing count.0 count.1) (key, rest) e in
    let n = number_takes missing w16 (2 ^ 16) wide16 bytes b.0.0 b.0.1 fits b.1 in
    let k = sized_key_takes format missing b.0.0 b.0.1 key rest n.0.rest_fits b.2 in
    let count : b.0.0 ≡ length key - 2 = omega (arith, k.1) in
    (subst (λ (c : ℕ). TakesText bytes (to_be_bytes w16 c ++ sized_key_text format key) rest) count (TakesText-then bytes (to_be_bytes w16 b.0.0) b.0.1 (sized_key_text format key) rest n.0 k.0), k.2, k.3)

pub key_again : (format : Format) (missing : Refusal) (key rest : List ℕ) → IsKey key → HasKey format key → key_at format missing (key_text_in format key ++ rest) ≡ Ok (key, rest)
unfolding key_at
key_again format missing key rest is_key has =
    let text = sized_key_text format key in
    let parts : key_text_in format key ++ rest ≡ to_be_bytes w16 (length key - 2) ++ (text ++ rest) = append_assoc (to_be_bytes w16 (length key - 2)) text rest in
    let number : number_at missing w16 (key_text_in format key ++ rest) ≡ Ok (length key - 2, text ++ rest) = ap (number_at missing w16) parts ∙ number_again missing w16 (2 ^ 16) wide16 (length key - 2) (text ++ rest) (omega (arith, is_key.1)) in
    rw (number, sized_key_again format missing key rest is_key has) refl

pub value_takes : (missing : Refusal) (bytes value rest : List ℕ) → IsBytes bytes → value_at missing bytes ≡ Ok (value, rest) → TakesText bytes (value_text value) rest × IsValue value
unfolding value_at
value_takes missing bytes value rest fits e =
    let a = bind_ok (number_at missing w32 bytes) (λ count. where_true (nat_le count.0 65535) BadLength count.0 >>= λ lawful. bytes_at missing lawful count.1) (value, rest) e in
    let b = bind_ok (where_true (nat_le a.0.0 65535) BadLength a.0.0) (λ lawful. bytes_at missing lawful a.0.1) (value, rest) a.2 in
    let n = number_takes missing w32 (2 ^ 32) wide32 bytes a.0.0 a.0.1 fits a.1 in
    let g = where_ok (nat_le a.0.0 65535) BadLength a.0.0 b.0 b.1 in
    let t = bytes_take missing b.0 a.0.1 value rest n.0.rest_fits b.2 in
    let len : length value ≡ a.0.0 = t.1 ∙ sym g.1 in
    let limit : a.0.0 ≤ 65535 = grind (arith, g.0, nat_tests) in
    (subst (λ (c : ℕ). TakesText bytes (to_be_bytes w32 c ++ value) rest) (sym len) (TakesText-then bytes (to_be_bytes w32 a.0.0) a.0.1 value rest n.0 t.0), subst (λ (c : ℕ). c ≤ 65535) (sym len) limit)

pub value_again : (missing : Refusal) (value rest : List ℕ) → IsValue value → value_at missing (value_text value ++ rest) ≡ Ok (value, rest)
unfolding value_at
value_again missing value rest is_value =
    let parts : value_text value ++ rest ≡ to_be_bytes w32 (length value) ++ (value ++ rest) = append_assoc (to_be_bytes w32 (length value)) value rest in
    let number : number_at missing w32 (value_text value ++ rest) ≡ Ok (length value, value ++ rest) = ap (number_at missing w32) parts ∙ number_again missing w32 (2 ^ 32) wide32 (length value) (value ++ rest) (omega (arith, is_value)) in
    let lawful : nat_le (length value) 65535 ≡ true = grind (arith, is_value, nat_tests) in
    rw (number, lawful, bytes_again missing value rest) refl

pub content_takes : (missing : Refusal) (bytes : List ℕ) (content : Option (List ℕ)) (rest : List ℕ) → IsBytes bytes → content_at missing bytes ≡ Ok (content, rest) → TakesText bytes (content_text content) rest × IfSome content IsValue
unfolding content_at
content_takes missing [] content rest fits e = absurd cc
content_takes missing (zero ∷ bytes) content rest fits e =
    subst (λ (x : Option (List ℕ) × List ℕ). TakesText (0 ∷ bytes) (content_text x.0) x.1 × IfSome x.0 IsValue) (ok_is (None, bytes) (content, rest) e) (record { parts = refl; rest_fits = IsBytes-rest 0 bytes fits }, tt)
content_takes missing (suc zero ∷ bytes) content rest fits e =
    let b = bind_ok (value_at missing bytes) (λ value. Ok (Some value.0, value.1)) (content, rest) e in
    let t = value_takes missing bytes b.0.0 b.0.1 (IsBytes-rest 1 bytes fits) b.1 in
    subst (λ (x : Option (List ℕ) × List ℕ). TakesText (1 ∷ bytes) (content_text x.0) x.1 × IfSome x.0 IsValue) (ok_is (Some b.0.0, b.0.1) (content, rest) b.2) (record { parts = ap (λ (w : List ℕ). 1 ∷ w) t.0.parts; rest_fits = t.0.rest_fits }, t.1)
content_takes missing (suc (suc kind) ∷ bytes) content rest fits e = absurd cc

pub content_again : (missing : Refusal) (content : Option (List ℕ)) (rest : List ℕ) → IfSome content IsValue → content_at missing (content_text content ++ rest) ≡ Ok (content, rest)
unfolding content_at
content_again missing None rest is_value = refl
content_again missing (Some value) rest is_value = rw (value_again missing value rest is_value) refl

-- What is read of the front of bytes leaves no more of them than there were; an entry leaves fewer.
use Rattle.std.proofs.Common.{◌≡◌, ℕ, zero, suc, ◌+◌, ◌<◌, ◌≤◌, Bool, true, false, cond, eqb, ltb, List, [], ◌∷◌, length, take, drop, Option, Some, None, Result, Ok, Err, refl, subst, arith}
use Rattle.std.proofs.lemmas.List.{length-drop}
use Rattle.std.proofs.lemmas.Bool.{ltb-false}
use Rattle.std.specs.Prelude.{nat_le, ◌&&◌, ⊤}
use Rattle.std.specs.Ordering.{is_lt}
use Rattle.std.specs.Int.{w16, w32, Width, byte_len, from_be_bytes}
use Rattle.pc_types.specs.declared.Refusal.{Refusal}
use Rattle.pc_types.specs.declared.Refusal.TheVariants.{Short, BadLength, KeyOrder, NotCovered}
use Rattle.pc_types.specs.declared.Triple.{Triple}
use Rattle.pc_io.specs.declared.formats.Format.{Format}
use Rattle.pc_io.specs.Fields.{◌>>=◌, where_true, bytes_at, number_at, space_bytes, key_behind, sized_key_at, value_at, content_at}
use Rattle.pc_model.specs.Database.{key_cmp}
use Rattle.pc_part.specs.declared.ranges.Range.{Range}
use Rattle.pc_part.specs.Parts.{covers}
use Rattle.pc_part.specs.Reading.{next_key_at, point_at, part_entry_at, next_entry_at}

-- what is left is at most so much
abbrev Leaves : {X : Type 0} → ℕ → Result (X × List ℕ) Refusal → Type 0
Leaves n (Ok x) = length x.1 ≤ n
Leaves n (Err e) = ⊤

leaves_more : {X : Type 0} (n m : ℕ) (r : Result (X × List ℕ) Refusal) → n ≤ m → Leaves n r → Leaves m r
leaves_more n m (Ok x) le h = omega arith
leaves_more n m (Err e) le h = tt

leaves_then : {X Y : Type 0} (n : ℕ) (r : Result (X × List ℕ) Refusal) (f : X × List ℕ → Result (Y × List ℕ) Refusal) → Leaves n r → ((x : X × List ℕ) → Leaves (length x.1) (f x)) → Leaves n (r >>= f)
leaves_then n (Ok x) f h k = leaves_more (length x.1) n (f x) h (k x)
leaves_then n (Err e) f h k = tt

leaves_where : {X : Type 0} (test : Bool) (fault : Refusal) (x : X) (bytes : List ℕ) → Leaves {X = X} (length bytes) (where_true test fault (x, bytes))
leaves_where true fault x bytes = omega arith
leaves_where false fault x bytes = tt

leaves_counted : {X : Type 0} (test : Bool) (x : X) (n : ℕ) (bytes : List ℕ) → Leaves {X = X} (length bytes) (cond test (Err Short) (Ok (x, drop n bytes)))
leaves_counted true x n bytes = tt
leaves_counted false x n bytes = omega (arith, length-drop n bytes)

leaves_number : (w : Width) (bytes : List ℕ) → Leaves (length bytes) (number_at Short w bytes)
leaves_number w bytes = leaves_counted (ltb (length bytes) (byte_len w)) (from_be_bytes w (take (byte_len w) bytes)) (byte_len w) bytes

leaves_bytes : (count : ℕ) (bytes : List ℕ) → Leaves (length bytes) (bytes_at Short count bytes)
leaves_bytes count bytes = leaves_counted (ltb (length bytes) count) (take count bytes) count bytes

-- that many bytes, if that is valid
leaves_lawful : (test : Bool) (count : ℕ) (bytes : List ℕ) → Leaves (length bytes) (where_true test BadLength count >>= λ lawful. bytes_at Short lawful bytes)
leaves_lawful true count bytes = leaves_bytes count bytes
leaves_lawful false count bytes = tt

-- after a test
leaves_tested : {A X : Type 0} (n : ℕ) (test : Bool) (fault : Refusal) (x : A) (f : A → Result (X × List ℕ) Refusal) → Leaves n (f x) → Leaves n (where_true test fault x >>= f)
leaves_tested n true fault x f h = h
leaves_tested n false fault x f h = tt

abbrev with_space : Format → List ℕ × List ℕ → Result (List ℕ × List ℕ) Refusal
with_space format text = Ok (key_behind format text.0, text.1)

leaves_sized_key : (format : Format) (count : ℕ) (bytes : List ℕ) → Leaves (length bytes) (sized_key_at format Short count bytes)
unfolding sized_key_at
leaves_sized_key format count bytes = leaves_tested (length bytes) (nat_le 1 count && nat_le count 255) BadLength count (λ lawful. bytes_at Short (lawful + space_bytes format) bytes >>= with_space format)
    (leaves_then (length bytes) _ (with_space format) (leaves_bytes (count + space_bytes format) bytes) (λ text. omega arith))

leaves_key : (format : Format) (last : List ℕ) (count : ℕ) (bytes : List ℕ) → Leaves (length bytes) (next_key_at format last count bytes)
unfolding next_key_at
leaves_key format last count bytes = leaves_then (length bytes) _ _ (leaves_sized_key format count bytes) (λ key. leaves_where (is_lt (key_cmp last key.0)) KeyOrder key.0 key.1)

leaves_value : (bytes : List ℕ) → Leaves (length bytes) (value_at Short bytes)
unfolding value_at
leaves_value bytes = leaves_then (length bytes) _ _ (leaves_number w32 bytes) (λ count. leaves_lawful (nat_le count.0 65535) count.0 count.1)

abbrev with_value : List ℕ × List ℕ → Result (Option (List ℕ) × List ℕ) Refusal
with_value value = Ok (Some value.0, value.1)

leaves_content : (bytes : List ℕ) → Leaves (length bytes) (content_at Short bytes)
unfolding content_at
leaves_content [] = tt
leaves_content (zero ∷ bytes) = omega arith
leaves_content (suc zero ∷ bytes) = leaves_more (length bytes) (suc (length bytes)) _ (omega arith) (leaves_then (length bytes) (value_at Short bytes) with_value (leaves_value bytes) (λ value. omega arith))
leaves_content (suc (suc kind) ∷ bytes) = tt

leaves_entry : (ranges : List Range) (bytes : List ℕ) → Leaves (length bytes) (part_entry_at ranges bytes)
unfolding part_entry_at point_at
leaves_entry ranges bytes = leaves_then (length bytes) _ _ (leaves_then (length bytes) _ _ (leaves_number w32 bytes) (λ point. leaves_where (covers ranges point.0) NotCovered point.0 point.1)) (λ point. leaves_then (length point.1) _ _ (leaves_content point.1) (λ content. omega arith))

abbrev Next : Type 0
Next = Option Triple × List ℕ

-- after a length
leaves_behind : (format : Format) (ranges : List Range) (last : List ℕ) (t : Bool) (count : ℕ) (rest : List ℕ) → Leaves {X = Option Triple} (length rest) (cond t (Ok (None, rest)) (next_key_at format last count rest >>= λ key. part_entry_at ranges key.1 >>= λ there. Ok (Some (record { key = key.0; point = there.0.point; content = there.0.content }), there.1)))
leaves_behind format ranges last true count rest = omega arith
leaves_behind format ranges last false count rest = leaves_then (length rest) _ _ (leaves_key format last count rest) (λ key. leaves_then (length key.1) _ _ (leaves_entry ranges key.1) (λ there. omega arith))

-- the length is there, and its bytes are no more left
length_first : {X : Type 0} (bytes : List ℕ) (f : ℕ × List ℕ → Result (X × List ℕ) Refusal) (x : X) (rest : List ℕ) → ((count : ℕ × List ℕ) → Leaves (length count.1) (f count)) → (number_at Short w16 bytes >>= f) ≡ Ok (x, rest) → length rest < length bytes
length_first {X} bytes f x rest behind is = by (ltb (length bytes) 2) (from_be_bytes w16 (take 2 bytes)) (λ few. ltb-false (length bytes) 2 few) is
  where
    by : (t : Bool) (number : ℕ) → (t ≡ false → 2 ≤ length bytes) → (cond t (Err Short) (Ok (number, drop 2 bytes)) >>= f) ≡ Ok (x, rest) → length rest < length bytes
    by true number long is = absurd cc
    by false number long is =
        let left : length rest ≤ length (drop 2 bytes) = subst (λ (r : Result (X × List ℕ) Refusal). Leaves (length (drop 2 bytes)) r) is (behind (number, drop 2 bytes)) in
        let two : 2 ≤ length bytes = long refl in
        omega (arith, length-drop 2 bytes)

pub next_shrinks : (format : Format) (ranges : List Range) (last bytes : List ℕ) (next : Option Triple) (rest : List ℕ) → next_entry_at format ranges last bytes ≡ Ok (next, rest) → length rest < length bytes
unfolding next_entry_at
next_shrinks format ranges last bytes next rest is = length_first bytes _ next rest (λ count. leaves_behind format ranges last (eqb count.0 0) count.0 count.1) is

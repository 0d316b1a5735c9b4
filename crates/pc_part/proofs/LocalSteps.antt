-- Fields and the steps of a part are read of longer bytes as of these, unless these end too soon.
use Rattle.std.proofs.Common.{◌≡◌, ℕ, zero, suc, ◌+◌, ◌≤◌, eqb, ltb, cond, Bool, true, false, List, [], ◌∷◌, ◌++◌, length, take, drop, append_assoc, Option, Some, None, Result, Ok, Err, refl, sym, ap, ◌∙◌, arith, ◌⊎◌, inl, inr}
use Rattle.std.specs.Prelude.{nat_le, nat_lt, ◌&&◌}
use Rattle.std.specs.Ordering.{is_lt}
use Rattle.std.specs.Int.{Width, w16, w32, w64, byte_len, from_be_bytes}
use Rattle.std.proofs.lemmas.List.{take-append-le, take-append-drop, drop-append-le, length-append}
use Rattle.std.proofs.lemmas.Bool.{ltb-false, le-ltb}
use Rattle.pc_types.specs.declared.Refusal.{Refusal}
use Rattle.pc_types.specs.declared.Refusal.TheVariants.{Short, BadLength, BadRanges, KeyOrder, NotCovered}
use Rattle.pc_io.specs.declared.formats.Format.{Format}
use Rattle.pc_io.specs.declared.formats.Format.TheVariants.{First, Second}
use Rattle.pc_io.specs.Fields.{◌>>=◌, where_true, bytes_at, number_at, format_told, magic_at, space_bytes, key_behind, sized_key_at, value_at, content_at}
use Rattle.pc_io.proofs.CutFieldLaws.{IsCut, ReadsAlike}
use Rattle.pc_io.proofs.FieldLaws.{bind_ok, guard_ok, ok_is}
use Rattle.pc_model.specs.Database.{key_cmp}
use Rattle.pc_model.specs.Points.{AtPoint}
use Rattle.pc_types.specs.declared.Triple.{Triple}
use Rattle.pc_part.specs.declared.ranges.Range.{Range}
use Rattle.pc_part.specs.Parts.{covers}
use Rattle.pc_part.specs.Reading.{items_at, range_at, ranges_at, next_key_at, point_at, part_entry_at, next_entry_at, part_header_at}
use Rattle.pc_part.specs.RoundTrips.{IsLocal, StepsAreLocal}
use Rattle.pc_part.specs.Texts.{part_magic}

abbrev Read : Type 0 → Type 0
Read X = List ℕ → Result (X × List ℕ) Refusal

-- one, or what follows from the other
otherwise : {A B C : Type 0} → (B → C) → A ⊎ B → A ⊎ C
otherwise f (inl a) = inl a
otherwise f (inr b) = inr (f b)

bind_err : {A B : Type 0} (r : Result A Refusal) (f : A → Result B Refusal) (e : Refusal) (P : Type 0) → (r >>= f) ≡ Err e → (r ≡ Err e → P) → ((x : A) → r ≡ Ok x → f x ≡ Err e → P) → P
bind_err (Ok x) f e P is on_err on_ok = on_ok x refl is
bind_err (Err d) f e P is on_err on_ok = on_err (let same : d ≡ e = cc in ap (λ (x : Refusal). Err x) same)

local_bind : {X Y : Type 0} (a : Read X) (b : X → Read Y) → IsLocal a → ((x : X) → IsLocal (b x)) → IsLocal (λ bytes. a bytes >>= λ p. b p.0 p.1)
local_bind {X} {Y} a b first next = record {
  ok = λ bytes more y rest is.
      let f : X × List ℕ → Result (Y × List ℕ) Refusal = λ p. b p.0 p.1 in
      let p = bind_ok (a bytes) f (y, rest) is in
      ap (λ r. r >>= f) (first.ok bytes more p.0.0 p.0.1 p.1) ∙ (next p.0.0).ok p.0.1 more y rest p.2;
  back = λ bytes y rest is.
      let f : X × List ℕ → Result (Y × List ℕ) Refusal = λ p. b p.0 p.1 in
      let p = bind_ok (a bytes) f (y, rest) is in
      let one = first.back bytes p.0.0 p.0.1 p.1 in
      let two = (next p.0.0).back p.0.1 y rest p.2 in
      (one.0 ++ two.0, one.1 ∙ ap (λ (t : List ℕ). one.0 ++ t) two.1 ∙ sym (append_assoc one.0 two.0 rest));
  err = λ bytes more fault is.
      let f : X × List ℕ → Result (Y × List ℕ) Refusal = λ p. b p.0 p.1 in
      bind_err (a bytes) f fault ((fault ≡ Short) ⊎ ((a (bytes ++ more) >>= f) ≡ Err fault)) is
      (λ e. otherwise (λ same. ap (λ r. r >>= f) same) (first.err bytes more fault e))
      (λ p e g. otherwise (λ same. ap (λ r. r >>= f) (first.ok bytes more p.0 p.1 e) ∙ same) ((next p.0).err p.1 more fault g));
}

local_where : {X : Type 0} (test : Bool) (fault : Refusal) (x : X) → IsLocal (λ bytes. where_true test fault (x, bytes))
local_where {X} true fault x = record { back = λ bytes y rest is. ([], ap (λ (p : X × List ℕ). p.1) (ok_is (x, bytes) (y, rest) is)); ok = λ bytes more y rest is. ap (λ (r : Result (X × List ℕ) Refusal). r >>= λ p. Ok (p.0, p.1 ++ more)) is; err = λ bytes more f is. cc }
local_where {X} false fault x = record { back = λ bytes y rest is. cc; ok = λ bytes more y rest is. cc; err = λ bytes more f is. inr is }

local_ok : {X : Type 0} (x : X) → IsLocal (λ bytes. Ok (x, bytes))
local_ok {X} x = record { back = λ bytes y rest is. ([], ap (λ (p : X × List ℕ). p.1) (ok_is (x, bytes) (y, rest) is)); ok = λ bytes more y rest is. ap (λ (r : Result (X × List ℕ) Refusal). r >>= λ p. Ok (p.0, p.1 ++ more)) is; err = λ bytes more f is. cc }

local_err : {X : Type 0} (fault : Refusal) → IsLocal {X = X} (λ bytes. Err fault)
local_err fault = record { back = λ bytes y rest is. cc; ok = λ bytes more y rest is. cc; err = λ bytes more f is. inr is }

-- the same read, written otherwise
IsLocal_same : {X : Type 0} (r s : Read X) → ((bytes : List ℕ) → r bytes ≡ s bytes) → IsLocal r → IsLocal s
IsLocal_same r s same local = record {
  ok = λ bytes more y rest is. sym (same (bytes ++ more)) ∙ local.ok bytes more y rest (same bytes ∙ is);
  err = λ bytes more fault is. otherwise (λ err. sym (same (bytes ++ more)) ∙ err) (local.err bytes more fault (same bytes ∙ is));
  back = λ bytes y rest is. local.back bytes y rest (same bytes ∙ is);
}

-- what needs that many bytes, and takes them
module _ {X : Type 0} (n : ℕ) (make : List ℕ → X) where
  counted : Read X
  counted bytes = cond (ltb (length bytes) n) (Err Short) (Ok (make (take n bytes), drop n bytes))

  local_counted : IsLocal (λ bytes. cond (ltb (length bytes) n) (Err Short) (Ok (make (take n bytes), drop n bytes)))
  local_counted = record {
    back = λ bytes y rest is.
        let g = guard_ok (ltb (length bytes) n) Short (make (take n bytes), drop n bytes) (y, rest) is in
        (take n bytes, sym (take-append-drop n bytes) ∙ ap (λ (p : X × List ℕ). take n bytes ++ p.1) g.1);
    ok = λ bytes more y rest is.
        let g = guard_ok (ltb (length bytes) n) Short (make (take n bytes), drop n bytes) (y, rest) is in
        let long : n ≤ length bytes = ltb-false (length bytes) n g.0 in
        let longer : ltb (length (bytes ++ more)) n ≡ false = le-ltb _ _ (omega (arith, long, length-append bytes more)) in
        rw (longer, take-append-le n bytes more long, drop-append-le n bytes more long) (ap (λ (p : X × List ℕ). Ok (p.0, p.1 ++ more)) g.1);
    err = λ bytes more f is. inl (short_alone (ltb (length bytes) n) (make (take n bytes), drop n bytes) f is);
  }
    where
      short_alone : (t : Bool) (p : X × List ℕ) (f : Refusal) → cond t (Err Short) (Ok p) ≡ Err f → f ≡ Short
      short_alone true p f is = let same : Short ≡ f = cc in sym same
      short_alone false p f is = cc

local_number : (w : Width) → IsLocal (number_at Short w)
local_number w = local_counted (byte_len w) (from_be_bytes w)

local_bytes : (count : ℕ) → IsLocal (bytes_at Short count)
local_bytes count = local_counted count (λ bytes. bytes)

-- that many bytes, if that is valid
local_lawful : (test : Bool) (count : ℕ) → IsLocal (λ bytes. where_true test BadLength count >>= λ lawful. bytes_at Short lawful bytes)
local_lawful true count = local_bytes count
local_lawful false count = local_err BadLength

-- after a test
local_where_then : {A X : Type 0} (test : Bool) (fault : Refusal) (x : A) (behind : A → Read X) → IsLocal (behind x) → IsLocal (λ bytes. where_true test fault x >>= λ some. behind some bytes)
local_where_then true fault x behind local = local
local_where_then false fault x behind local = local_err fault

local_sized_key : (format : Format) (count : ℕ) → IsLocal (sized_key_at format Short count)
unfolding sized_key_at
local_sized_key format count = local_where_then (nat_le 1 count && nat_le count 255) BadLength count (λ lawful bytes. bytes_at Short (lawful + space_bytes format) bytes >>= λ text. Ok (key_behind format text.0, text.1))
    (local_bind (bytes_at Short (count + space_bytes format)) (λ text bytes. Ok (key_behind format text, bytes)) (local_bytes (count + space_bytes format)) (λ text. local_ok (key_behind format text)))

pub local_next_key : (format : Format) (last : List ℕ) (count : ℕ) → IsLocal (next_key_at format last count)
unfolding next_key_at
local_next_key format last count = local_bind (sized_key_at format Short count) (λ key bytes. where_true (is_lt (key_cmp last key)) KeyOrder (key, bytes)) (local_sized_key format count) (λ key. local_where (is_lt (key_cmp last key)) KeyOrder key)

local_point : (ranges : List Range) → IsLocal (point_at ranges)
unfolding point_at
local_point ranges = local_bind (number_at Short w32) (λ point bytes. where_true (covers ranges point) NotCovered (point, bytes)) (local_number w32) (λ point. local_where (covers ranges point) NotCovered point)

local_value : IsLocal (value_at Short)
unfolding value_at
local_value = local_bind (number_at Short w32) (λ count bytes. where_true (nat_le count 65535) BadLength count >>= λ lawful. bytes_at Short lawful bytes) (local_number w32) (λ count. local_lawful (nat_le count 65535) count)

abbrev some_value : List ℕ → List ℕ → Result (Option (List ℕ) × List ℕ) Refusal
some_value value bytes = Ok (Some value, bytes)

local_some : IsLocal (λ bytes. value_at Short bytes >>= λ value. Ok (Some value.0, value.1))
local_some = local_bind (value_at Short) some_value local_value (λ value. local_ok (Some value))

local_content : IsLocal (content_at Short)
unfolding content_at
local_content = record { back = back; ok = ok; err = err }
  where
    back : (bytes : List ℕ) (x : Option (List ℕ)) (rest : List ℕ) → content_at Short bytes ≡ Ok (x, rest) → (text : List ℕ) × (bytes ≡ text ++ rest)
    back [] x rest is = cc
    back (zero ∷ bytes) x rest is = let h = (local_ok None).back bytes x rest is in (0 ∷ h.0, ap (λ (t : List ℕ). 0 ∷ t) h.1)
    back (suc zero ∷ bytes) x rest is = let h = local_some.back bytes x rest is in (1 ∷ h.0, ap (λ (t : List ℕ). 1 ∷ t) h.1)
    back (suc (suc kind) ∷ bytes) x rest is = cc

    ok : (bytes more : List ℕ) (x : Option (List ℕ)) (rest : List ℕ) → content_at Short bytes ≡ Ok (x, rest) → content_at Short (bytes ++ more) ≡ Ok (x, rest ++ more)
    ok [] more x rest is = cc
    ok (zero ∷ bytes) more x rest is = (local_ok None).ok bytes more x rest is
    ok (suc zero ∷ bytes) more x rest is = local_some.ok bytes more x rest is
    ok (suc (suc kind) ∷ bytes) more x rest is = cc

    err : (bytes more : List ℕ) (fault : Refusal) → content_at Short bytes ≡ Err fault → (fault ≡ Short) ⊎ (content_at Short (bytes ++ more) ≡ Err fault)
    err [] more fault is = let same : Short ≡ fault = cc in inl (sym same)
    err (zero ∷ bytes) more fault is = cc
    err (suc zero ∷ bytes) more fault is = local_some.err bytes more fault is
    err (suc (suc kind) ∷ bytes) more fault is = inr is

abbrev at_point : ℕ → Option (List ℕ) → AtPoint
at_point point content = record { point = point; content = content }

local_entry : (ranges : List Range) → IsLocal (part_entry_at ranges)
unfolding part_entry_at
local_entry ranges = local_bind (point_at ranges) (λ point bytes. content_at Short bytes >>= λ content. Ok (at_point point content.0, content.1)) (local_point ranges)
    (λ point. local_bind (content_at Short) (λ content bytes. Ok (at_point point content, bytes)) local_content (λ content. local_ok (at_point point content)))

abbrev triple : List ℕ → AtPoint → Triple
triple key there = record { key = key; point = there.point; content = there.content }

pub next_entry_local : (format : Format) (ranges : List Range) (last : List ℕ) → IsLocal (next_entry_at format ranges last)
unfolding next_entry_at
next_entry_local format ranges last = local_bind (number_at Short w16)
    (λ count bytes. cond (eqb count 0) (Ok (None, bytes)) (next_key_at format last count bytes >>= λ key. part_entry_at ranges key.1 >>= λ there. Ok (Some (triple key.0 there.0), there.1)))
    (local_number w16) (λ count. by (eqb count 0) count)
  where
    by : (t : Bool) (count : ℕ) → IsLocal (λ bytes. cond t (Ok (None, bytes)) (next_key_at format last count bytes >>= λ key. part_entry_at ranges key.1 >>= λ there. Ok (Some (triple key.0 there.0), there.1)))
    by true count = local_ok None
    by false count = local_bind (next_key_at format last count) (λ key bytes. part_entry_at ranges bytes >>= λ there. Ok (Some (triple key there.0), there.1)) (local_next_key format last count)
        (λ key. local_bind (part_entry_at ranges) (λ there bytes. Ok (Some (triple key there), bytes)) (local_entry ranges) (λ there. local_ok (Some (triple key there))))

-- ---- the header

-- that many items, each read so
local_items : {S X : Type 0} (read : S → Read X) (leaves : X → S) → ((state : S) → IsLocal (read state)) → (count : ℕ) (state : S) → IsLocal (items_at read leaves count state)
unfolding items_at
local_items read leaves one zero state = local_ok []
local_items {S} {X} read leaves one (suc count) state = local_bind (read state) (λ first bytes. items_at read leaves count (leaves first) bytes >>= λ others. Ok (first ∷ others.0, others.1)) (one state)
    (λ first. local_bind (items_at read leaves count (leaves first)) (λ others bytes. Ok (first ∷ others, bytes)) (local_items read leaves one count (leaves first)) (λ others. local_ok (first ∷ others)))

abbrev range : ℕ → ℕ → Range
range low high = record { low = low; high = high }

local_range : (least : ℕ) → IsLocal (range_at least)
unfolding range_at
local_range least = local_bind (number_at Short w32)
    (λ low bytes. number_at Short w32 bytes >>= λ high. where_true (nat_le least low && nat_le low high.0 && nat_le high.0 65535) BadRanges (range low high.0, high.1)) (local_number w32)
    (λ low. local_bind (number_at Short w32) (λ high bytes. where_true (nat_le least low && nat_le low high && nat_le high 65535) BadRanges (range low high, bytes)) (local_number w32)
    (λ high. local_where (nat_le least low && nat_le low high && nat_le high 65535) BadRanges (range low high)))

-- what doesn't look at the bytes
local_known : {X : Type 0} (r : Result X Refusal) → IsLocal (λ bytes. r >>= λ x. Ok (x, bytes))
local_known (Ok x) = local_ok x
local_known (Err e) = local_err e

local_magic : (first second : List ℕ) → IsLocal (magic_at first second)
unfolding magic_at
local_magic first second = local_bind (bytes_at Short 8) (λ magic bytes. format_told first second magic >>= λ format. Ok (format, bytes)) (local_bytes 8) (λ magic. local_known (format_told first second magic))

abbrev header : Format → ℕ → List Range → Format × (ℕ × List Range)
header format run ranges = (format, (run, ranges))

pub header_local : IsLocal part_header_at
unfolding part_header_at
header_local = local_bind (magic_at (part_magic First) (part_magic Second))
    (λ format bytes. number_at Short w64 bytes >>= λ run. number_at Short w32 run.1 >>= λ count. where_true (nat_lt 0 count.0) BadRanges count.0 >>= λ some. ranges_at some 1 count.1 >>= λ ranges. Ok (header format run.0 ranges.0, ranges.1))
    (local_magic (part_magic First) (part_magic Second))
    (λ format. local_bind (number_at Short w64)
    (λ run bytes. number_at Short w32 bytes >>= λ count. where_true (nat_lt 0 count.0) BadRanges count.0 >>= λ some. ranges_at some 1 count.1 >>= λ ranges. Ok (header format run ranges.0, ranges.1)) (local_number w64)
    (λ run. local_bind (number_at Short w32) (λ count bytes. where_true (nat_lt 0 count) BadRanges count >>= λ some. ranges_at some 1 bytes >>= λ ranges. Ok (header format run ranges.0, ranges.1)) (local_number w32)
    (λ count. local_where_then (nat_lt 0 count) BadRanges count (λ some bytes. ranges_at some 1 bytes >>= λ ranges. Ok (header format run ranges.0, ranges.1))
    (local_bind (ranges_at count 1) (λ ranges bytes. Ok (header format run ranges, bytes)) (local_items range_at (λ (r : Range). r.high + 2) local_range count 1) (λ ranges. local_ok (header format run ranges))))))

pub steps_are_local : StepsAreLocal
steps_are_local = (header_local, next_entry_local)

-- ---- so what is read of a text that is truncated is what is read of the whole text, or it is short

pub local_cut : {X : Type 0} (read : Read X) → IsLocal read → (bytes more : List ℕ) → IsCut (ReadsAlike more) (read (bytes ++ more)) (read bytes)
local_cut {X} read local bytes more = by (read (bytes ++ more)) (read bytes) refl refl
  where
    unlike : (x : X × List ℕ) (e : Refusal) → read (bytes ++ more) ≡ Ok x → (e ≡ Short) ⊎ (read (bytes ++ more) ≡ Err e) → e ≡ Short
    unlike x e is (inl short) = short
    unlike x e is (inr err) = let bad : Ok x ≡ Err e = sym is ∙ err in cc

    by : (whole cut : Result (X × List ℕ) Refusal) → read (bytes ++ more) ≡ whole → read bytes ≡ cut → IsCut (ReadsAlike more) whole cut
    by (Err e) cut is was = tt
    by (Ok x) (Ok y) is was = let same : x ≡ (y.0, y.1 ++ more) = ok_is x (y.0, y.1 ++ more) (sym is ∙ local.ok bytes more y.0 y.1 was) in (ap (λ (p : X × List ℕ). p.0) same, ap (λ (p : X × List ℕ). p.1) same)
    by (Ok x) (Err e) is was = unlike x e is (local.err bytes more e was)

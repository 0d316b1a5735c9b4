-- Reading bytes in memory finds the faults of a text alone, and none of a device.
use Rattle.std.proofs.Common.{◌≡◌, ◌≢◌, ◌⊎◌, inl, inr, ℕ, zero, suc, ◌+◌, Bool, true, false, cond, eqb, ltb, nat_eq, nat_lt, List, [], ◌∷◌, Option, Some, None, Result, Ok, Err, length, take, drop, refl, sym, subst, ◌∙◌}
use Rattle.std.specs.Prelude.{nat_le, ◌&&◌, IfErr, ⊤}
use Rattle.std.specs.Result.{IsErr, IsErrAnd}
use Rattle.std.specs.Ordering.{is_lt}
use Rattle.std.specs.Cmp.Lexicographic.{pointwise}
use Rattle.std.specs.Int.{w16, w32, w64, Width, byte_len, from_be_bytes}
use Rattle.pc_types.specs.declared.Refusal.{Refusal}
use Rattle.pc_types.specs.declared.Refusal.TheVariants.{OutOfMemory, Device, Short, BadMagic, BadRanges, BadLength, KeyOrder, NotCovered}
use Rattle.pc_io.specs.Fields.{◌>>=◌, where_true, bytes_at, number_at, space_bytes, format_told, magic_at, sized_key_at, value_at, content_at}
use Rattle.pc_model.specs.Database.{key_cmp}
use Rattle.pc_types.specs.declared.Triple.{Triple}
use Rattle.pc_io.specs.declared.formats.Format.{Format}
use Rattle.pc_io.specs.declared.formats.Format.TheVariants.{First, Second}
use Rattle.pc_part.specs.declared.ranges.Range.{Range}
use Rattle.pc_part.specs.Parts.{covers}
use Rattle.pc_part.specs.Reading.{items_at, range_at, ranges_at, next_key_at, point_at, part_entry_at, next_entry_at, part_header_at}
use Rattle.pc_part.specs.Texts.{part_magic}
use Rattle.pc_streams.specs.Refusals.{IsReadRefusal, IsTextFault}
use Rattle.pc_streams.proofs.OfText.{Stands}

-- whatever was read, what is refused is a fault of the text
abbrev pub IsSpared : {X : Type 0} → Result X Refusal → Type 0
IsSpared (Ok x) = ⊤
IsSpared (Err e) = IsTextFault e

spared_then : {X Y : Type 0} (r : Result X Refusal) (f : X → Result Y Refusal) → IsSpared r → ((x : X) → IsSpared (f x)) → IsSpared (r >>= f)
spared_then (Ok x) f h k = k x
spared_then (Err e) f h k = h

spared_where : {X : Type 0} (test : Bool) (fault : Refusal) (x : X) → IsTextFault fault → IsSpared (where_true test fault x)
spared_where true fault x h = tt
spared_where false fault x h = h

spared_counted : {X : Type 0} (test : Bool) (x : X) → IsSpared (cond test (Err Short) (Ok x))
spared_counted true x = tt
spared_counted false x = tt

pub spared_number : (w : Width) (bytes : List ℕ) → IsSpared (number_at Short w bytes)
spared_number w bytes = spared_counted (ltb (length bytes) (byte_len w)) (from_be_bytes w (take (byte_len w) bytes), drop (byte_len w) bytes)

spared_bytes : (count : ℕ) (bytes : List ℕ) → IsSpared (bytes_at Short count bytes)
spared_bytes count bytes = spared_counted (ltb (length bytes) count) (take count bytes, drop count bytes)

spared_key : (format : Format) (last : List ℕ) (count : ℕ) (bytes : List ℕ) → IsSpared (next_key_at format last count bytes)
unfolding next_key_at sized_key_at
spared_key format last count bytes = spared_then _ _ (spared_then _ _ (spared_where (nat_le 1 count && nat_le count 255) BadLength count tt) (λ lawful. spared_then _ _ (spared_bytes (lawful + space_bytes format) bytes) (λ text. tt))) (λ key. spared_where (is_lt (key_cmp last key.0)) KeyOrder key tt)

spared_value : (bytes : List ℕ) → IsSpared (value_at Short bytes)
unfolding value_at
spared_value bytes = spared_then _ _ (spared_number w32 bytes) (λ count. spared_then _ _ (spared_where (nat_le count.0 65535) BadLength count.0 tt) (λ lawful. spared_bytes lawful count.1))

spared_content : (bytes : List ℕ) → IsSpared (content_at Short bytes)
unfolding content_at
spared_content [] = tt
spared_content (zero ∷ bytes) = tt
spared_content (suc zero ∷ bytes) = spared_then _ _ (spared_value bytes) (λ value. tt)
spared_content (suc (suc kind) ∷ bytes) = tt

spared_entry : (ranges : List Range) (bytes : List ℕ) → IsSpared (part_entry_at ranges bytes)
unfolding part_entry_at point_at
spared_entry ranges bytes = spared_then _ _ (spared_then _ _ (spared_number w32 bytes) (λ point. spared_where (covers ranges point.0) NotCovered point tt)) (λ point. spared_then _ _ (spared_content point.1) (λ content. tt))

pub spared_next : (format : Format) (ranges : List Range) (last bytes : List ℕ) → IsSpared (next_entry_at format ranges last bytes)
unfolding next_entry_at
spared_next format ranges last bytes = spared_then _ _ (spared_number w16 bytes) (λ count. by (eqb count.0 0) count.0 count.1)
  where
    by : (t : Bool) (count : ℕ) (rest : List ℕ) → IsSpared {X = Option Triple × List ℕ} (cond t (Ok (None, rest)) (next_key_at format last count rest >>= λ key. part_entry_at ranges key.1 >>= λ there. Ok (Some (record { key = key.0; point = there.0.point; content = there.0.content }), there.1)))
    by true count rest = tt
    by false count rest = spared_then _ _ (spared_key format last count rest) (λ key. spared_then _ _ (spared_entry ranges key.1) (λ there. tt))

is_spared : {X : Type 0} (r : Result X Refusal) (e : Refusal) → IsSpared r → r ≡ Err e → IsTextFault e
is_spared (Ok x) e h is = cc
is_spared (Err d) e h is = let same : d ≡ e = cc in subst IsTextFault same h

-- so a fault that isn't one of memory is none of a device
pub spared_by : {X : Type 0} (r : Result X Refusal) (why : Refusal) → IsSpared r → (why ≢ OutOfMemory → r ≡ Err why) → why ≢ Device
spared_by r why h is = λ device. subst IsTextFault device (is_spared r why h (is (λ memory. let bad : OutOfMemory ≡ Device = sym memory ∙ device in cc)))

-- a refusal is one of memory, or another
memory_or : (why : Refusal) → (why ≡ OutOfMemory) ⊎ (why ≢ OutOfMemory)
memory_or OutOfMemory = inl refl
memory_or why = inr (λ memory. cc)

-- what is refused for good is refused by a reader
pub refusal_by : {X Y : Type 0} (r : Result X Refusal) (why e : Refusal) (buffer after : List ℕ) (rem : Option (List ℕ)) (result : Result Y Refusal) → IsSpared r → (why ≢ OutOfMemory → r ≡ Err why) → Stands e why buffer after rem
    → IsErr result × IsErrAnd result (λ f. f ≡ e) → IfErr result IsReadRefusal
refusal_by r why e buffer after rem (Ok y) h is cause given = tt
refusal_by r why e buffer after rem (Err f) h is cause given = subst IsReadRefusal (sym given.1) (by cause (memory_or why))
  where
    by : Stands e why buffer after rem → (why ≡ OutOfMemory) ⊎ (why ≢ OutOfMemory) → IsReadRefusal e
    by (inl memory) which = inl memory
    by (inr (inl device)) which = inr (inl device)
    by (inr (inr same)) (inl memory) = inl (same.0 ∙ memory)
    by (inr (inr same)) (inr other) = inr (inr (subst IsTextFault (sym same.0) (is_spared r why h (is other))))

-- ---- the header

spared_told : (first second magic : List ℕ) → IsSpared (format_told first second magic)
spared_told first second magic = by (pointwise nat_eq magic second)
  where
    by : (t : Bool) → IsSpared {X = Format} (cond t (Ok Second) (where_true (pointwise nat_eq magic first) BadMagic First))
    by true = tt
    by false = spared_where (pointwise nat_eq magic first) BadMagic First tt

spared_magic : (first second bytes : List ℕ) → IsSpared (magic_at first second bytes)
unfolding magic_at
spared_magic first second bytes = spared_then _ _ (spared_bytes 8 bytes) (λ magic. spared_then _ _ (spared_told first second magic.0) (λ format. tt))

abbrev range : ℕ → ℕ → Range
range low high = record { low = low; high = high }

spared_range : (least : ℕ) (bytes : List ℕ) → IsSpared (range_at least bytes)
unfolding range_at
spared_range least bytes = spared_then _ _ (spared_number w32 bytes) (λ low. spared_then _ _ (spared_number w32 low.1)
    (λ high. spared_where (nat_le least low.0 && nat_le low.0 high.0 && nat_le high.0 65535) BadRanges (range low.0 high.0, high.1) tt))

spared_ranges : (count least : ℕ) (bytes : List ℕ) → IsSpared (ranges_at count least bytes)
unfolding items_at
spared_ranges zero least bytes = tt
spared_ranges (suc count) least bytes = spared_then _ _ (spared_range least bytes) (λ first. spared_then _ _ (spared_ranges count (first.0.high + 2) first.1) (λ others. tt))

pub spared_header : (bytes : List ℕ) → IsSpared (part_header_at bytes)
unfolding part_header_at
spared_header bytes = spared_then _ _ (spared_magic (part_magic First) (part_magic Second) bytes) (λ start. spared_then _ _ (spared_number w64 start.1) (λ run. spared_then _ _ (spared_number w32 run.1)
    (λ count. spared_then _ _ (spared_where (nat_lt 0 count.0) BadRanges count.0 tt) (λ some. spared_then _ _ (spared_ranges some 1 count.1) (λ ranges. tt)))))

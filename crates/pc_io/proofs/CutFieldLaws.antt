-- Fields of a text that is truncated: each is read as it is of the whole text, or the text is found to be short.
use Rattle.std.proofs.Common.{◌≡◌, ℕ, zero, suc, ◌<◌, Bool, true, false, ltb, eqb, List, [], ◌∷◌, ◌++◌, length, get_or, take, drop, Result, Ok, Err, refl, sym, ap, subst, ◌∙◌, drop-cons, arith, inl, inr}
use Rattle.std.specs.Prelude.{◌+◌, nat_le, ◌&&◌, if◌then◌else◌, ⊤}
use Rattle.std.specs.Int.{Width, w32, byte_len, from_be_bytes}
use Rattle.std.proofs.lemmas.Bool.{cases_lt, lt-ltb, le-ltb, ne_eqb}
use Rattle.std.proofs.lemmas.List.{take-append-drop, take-append-le, drop-append-le, length-append}
use Rattle.pc_types.specs.declared.refusal.Refusal.{Refusal}
use Rattle.pc_types.specs.declared.refusal.Refusal.TheVariants.{Short, BadLength, Trailing}
use Rattle.pc_io.specs.declared.formats.Format.{Format}
use Rattle.pc_io.specs.Fields.{◌>>=◌, where_true, bytes_at, number_at, format_told, magic_at, sized_key_at, space_bytes, value_at, content_at}

-- What is read of a whole text, and then of a prefix of it: the two are alike in this way, or the prefix is short. Of a
-- whole text with a fault nothing is said.
abbrev pub IsCut : {X : Type 0} → (X → X → Type 0) → Result X Refusal → Result X Refusal → Type 0
IsCut Alike (Err e) cut = ⊤
IsCut Alike (Ok x) (Ok y) = Alike x y
IsCut Alike (Ok x) (Err e) = e ≡ Short

-- the bytes left of a whole text are those left of a prefix of it, and these after them
abbrev pub LeavesMore : List ℕ → List ℕ → List ℕ → Type 0
LeavesMore more x y = x ≡ y ++ more

-- a field, and the bytes left
abbrev pub ReadsAlike : {X : Type 0} → List ℕ → X × List ℕ → X × List ℕ → Type 0
ReadsAlike more x y = (x.0 ≡ y.0) × (x.1 ≡ y.1 ++ more)

-- what is short is a cut of anything
pub short_is_cut : {X : Type 0} (Alike : X → X → Type 0) (r : Result X Refusal) → IsCut Alike r (Err Short)
short_is_cut Alike (Ok x) = refl
short_is_cut Alike (Err e) = tt

-- one step after the other
cut_steps : {X Y : Type 0} (P : X → X → Type 0) (Q : Y → Y → Type 0) (p q : Result X Refusal) (f g : X → Result Y Refusal) → IsCut P p q → ((x y : X) → P x y → IsCut Q (f x) (g y)) → IsCut Q (p >>= f) (q >>= g)
cut_steps P Q (Err e) q f g h k = tt
cut_steps P Q (Ok x) (Ok y) f g h k = k x y h
cut_steps P Q (Ok x) (Err e) f g h k = rw h (short_is_cut Q (f x))

-- the same after a field
pub cut_then : {X Y : Type 0} (more : List ℕ) (Q : Y → Y → Type 0) (p q : Result (X × List ℕ) Refusal) (f g : X × List ℕ → Result Y Refusal) → IsCut (ReadsAlike more) p q
    → ((x : X) (rest : List ℕ) → IsCut Q (f (x, rest ++ more)) (g (x, rest))) → IsCut Q (p >>= f) (q >>= g)
cut_then {X} more Q p q f g h k = cut_steps (ReadsAlike more) Q p q f g h (λ (x y : X × List ℕ) (alike : ReadsAlike more x y). subst (λ (z : X × List ℕ). IsCut Q (f z) (g y)) (λ i. (sym alike.0 i, sym alike.1 i)) (k y.0 y.1))

-- after bytes of which nothing is made
pub cut_behind : {Y : Type 0} (more : List ℕ) (Q : Y → Y → Type 0) (p q : Result (List ℕ) Refusal) (f g : List ℕ → Result Y Refusal) → IsCut (LeavesMore more) p q
    → ((rest : List ℕ) → IsCut Q (f (rest ++ more)) (g rest)) → IsCut Q (p >>= f) (q >>= g)
cut_behind more Q p q f g h k = cut_steps (LeavesMore more) Q p q f g h (λ (x y : List ℕ) (alike : LeavesMore more x y). subst (λ (z : List ℕ). IsCut Q (f z) (g y)) (sym alike) (k y))

-- after a test
pub cut_where : {X Y : Type 0} (Q : Y → Y → Type 0) (test : Bool) (fault : Refusal) (x y : X) (f g : X → Result Y Refusal) → IsCut Q (f x) (g y) → IsCut Q (where_true test fault x >>= f) (where_true test fault y >>= g)
cut_where Q true fault x y f g h = h
cut_where Q false fault x y f g h = tt

-- at a test
pub cut_tested : {X : Type 0} (P : X → X → Type 0) (test : Bool) (fault : Refusal) (x y : X) → P x y → IsCut P (where_true test fault x) (where_true test fault y)
cut_tested P true fault x y h = h
cut_tested P false fault x y h = tt

-- in either case
pub cut_either : {X : Type 0} (P : X → X → Type 0) (test : Bool) (p q r s : Result X Refusal) → IsCut P p r → IsCut P q s → IsCut P (if test then p else q) (if test then r else s)
cut_either P true p q r s h k = h
cut_either P false p q r s h k = k

-- the two are not alike: of the prefix of a text that is read to its end nothing is read
abbrev pub Never : {X : Type 0} → X → X → Type 0
Never x y = ⊥

-- after the end of the fields
pub cut_end : {X : Type 0} (rest : List ℕ) (byte : ℕ) (more : List ℕ) (x : X) (r : Result X Refusal) → IsCut Never (where_true (eqb (length (rest ++ byte ∷ more)) 0) Trailing x) r
cut_end rest byte more x r = let some : eqb (length (rest ++ byte ∷ more)) 0 ≡ false = ne_eqb _ _ (λ none. omega (arith, none, length-append rest (byte ∷ more))) in rw some tt

never_alike : {X : Type 0} (r s : Result X Refusal) (x : X) → IsCut Never r s → r ≡ Ok x → s ≡ Err Short
never_alike (Ok y) (Ok z) x h e = absurd h
never_alike (Ok y) (Err fault) x h e = rw h refl
never_alike (Err fault) s x h e = absurd cc

-- a text that is read to its end is short if it is truncated
pub cut_is_short : {X : Type 0} (read : List ℕ → Result X Refusal) → ((bytes : List ℕ) (byte : ℕ) (more : List ℕ) → IsCut Never (read (bytes ++ byte ∷ more)) (read bytes))
    → (text : List ℕ) (x : X) (n : ℕ) → read text ≡ Ok x → n < length text → read (take n text) ≡ Err Short
cut_is_short read cuts text x n whole lt =
    let parts : take n text ++ get_or text n 0 ∷ drop (suc n) text ≡ text = ap (λ (rest : List ℕ). take n text ++ rest) (sym (drop-cons text n 0 lt)) ∙ take-append-drop n text in
    never_alike (read (take n text ++ get_or text n 0 ∷ drop (suc n) text)) (read (take n text)) x (cuts (take n text) (get_or text n 0) (drop (suc n) text)) (ap read parts ∙ whole)

-- ---- fields

-- something made of the first bytes, and the others
abbrev first_bytes : {X : Type 0} → (List ℕ → X) → ℕ → List ℕ → Result (X × List ℕ) Refusal
first_bytes make count bytes = if ltb (length bytes) count then Err Short else Ok (make (take count bytes), drop count bytes)

first_cut : {X : Type 0} (make : List ℕ → X) (count : ℕ) (bytes more : List ℕ) → IsCut (ReadsAlike more) (first_bytes make count (bytes ++ more)) (first_bytes make count bytes)
first_cut make count bytes more = elim (cases_lt (length bytes) count) [
  | inl lt ↦ rw (lt-ltb (length bytes) count lt) (short_is_cut (ReadsAlike more) (first_bytes make count (bytes ++ more)))
  | inr le ↦
      let long : ltb (length (bytes ++ more)) count ≡ false = le-ltb _ _ (omega (arith, length-append bytes more)) in
      rw (long, le-ltb (length bytes) count le) (ap make (take-append-le count bytes more le), drop-append-le count bytes more le)
]

pub bytes_cut : (count : ℕ) (bytes more : List ℕ) → IsCut (ReadsAlike more) (bytes_at Short count (bytes ++ more)) (bytes_at Short count bytes)
bytes_cut count bytes more = first_cut (λ text. text) count bytes more

pub number_cut : (w : Width) (bytes more : List ℕ) → IsCut (ReadsAlike more) (number_at Short w (bytes ++ more)) (number_at Short w bytes)
number_cut w bytes more = first_cut (from_be_bytes w) (byte_len w) bytes more

-- after a step that doesn't look at the bytes
cut_known : {X Y : Type 0} (Q : Y → Y → Type 0) (r : Result X Refusal) (f g : X → Result Y Refusal) → ((x : X) → IsCut Q (f x) (g x)) → IsCut Q (r >>= f) (r >>= g)
cut_known Q (Ok x) f g h = h x
cut_known Q (Err e) f g h = tt

pub magic_cut : (first second bytes more : List ℕ) → IsCut (ReadsAlike more) (magic_at first second (bytes ++ more)) (magic_at first second bytes)
unfolding magic_at
magic_cut first second bytes more =
    cut_then more (ReadsAlike more) (bytes_at Short 8 (bytes ++ more)) (bytes_at Short 8 bytes) _ _ (bytes_cut 8 bytes more)
    (λ magic rest. cut_known (ReadsAlike more) (format_told first second magic) _ _ (λ format. (refl, refl)))

pub sized_key_cut : (format : Format) (count : ℕ) (bytes more : List ℕ) → IsCut (ReadsAlike more) (sized_key_at format Short count (bytes ++ more)) (sized_key_at format Short count bytes)
unfolding sized_key_at
sized_key_cut format count bytes more =
    cut_where (ReadsAlike more) (nat_le 1 count && nat_le count 255) BadLength count count _ _
    (cut_then more (ReadsAlike more) (bytes_at Short (count + space_bytes format) (bytes ++ more)) (bytes_at Short (count + space_bytes format) bytes) _ _ (bytes_cut (count + space_bytes format) bytes more) (λ text rest. (refl, refl)))

pub value_cut : (bytes more : List ℕ) → IsCut (ReadsAlike more) (value_at Short (bytes ++ more)) (value_at Short bytes)
unfolding value_at
value_cut bytes more =
    cut_then more (ReadsAlike more) (number_at Short w32 (bytes ++ more)) (number_at Short w32 bytes) _ _ (number_cut w32 bytes more)
    (λ count rest. cut_where (ReadsAlike more) (nat_le count 65535) BadLength count count _ _ (bytes_cut count rest more))

pub content_cut : (bytes more : List ℕ) → IsCut (ReadsAlike more) (content_at Short (bytes ++ more)) (content_at Short bytes)
unfolding content_at
content_cut [] more = short_is_cut (ReadsAlike more) (content_at Short more)
content_cut (zero ∷ bytes) more = (refl, refl)
content_cut (suc zero ∷ bytes) more = cut_then more (ReadsAlike more) (value_at Short (bytes ++ more)) (value_at Short bytes) _ _ (value_cut bytes more) (λ value rest. (refl, refl))
content_cut (suc (suc kind) ∷ bytes) more = tt

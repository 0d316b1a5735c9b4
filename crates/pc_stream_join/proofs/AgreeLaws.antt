-- Readers whose headers were read and are those of one join, and facts that stay known of readers.
use Rattle.std.proofs.Common.{◌≡◌, ℕ, ◌≤◌, eqb, not, ◌||◌, cond, Bool, true, false, List, [], ◌∷◌, length, map, Option, Some, None, Result, Ok, refl, sym, ap, ◌∙◌, arith}
use Rattle.std.specs.List.{All, list_any}
use Rattle.std.proofs.lemmas.Bool.Decides.{nat_tests}
use Rattle.std.proofs.lemmas.List.Elements.{All-head, All-tail}
use Rattle.pc_io.specs.Fields.{◌>>=◌}
use Rattle.pc_types.specs.declared.Refusal.{Refusal}
use Rattle.pc_types.specs.declared.Refusal.TheVariants.{OtherRun}
use Rattle.pc_part.specs.declared.ranges.Range.{Range}
use Rattle.pc_streams.specs.declared.reader.PartReader.{PartReader}
use Rattle.pc_streams.specs.Readers.{StaysKnown, coming_of, header_of}
use Rattle.pc_stream_join.specs.Headers.{AreHeaded, StayKnown, all_headers, headers_fault, runs_fault}

pub cons_is : {X : Type 0} (x y : X) (xs ys : List X) → x ∷ xs ≡ y ∷ ys → (x ≡ y) × (xs ≡ ys)
cons_is x y xs ys is = (cc, cc)

pub some_is : {X : Type 0} (x y : X) → Some x ≡ Some y → x ≡ y
some_is x y is = cc

-- ---- known facts stay

-- facts that one view of each has stay
abbrev pub StayIn : {A X : Type 0} → (A → Option X) → List A → List A → Type 0
StayIn view [] [] = Unit {0}
StayIn view (was ∷ inputs) (now ∷ inputs_now) = StaysKnown (view was) (view now) × StayIn view inputs inputs_now
StayIn view inputs inputs_now = ⊥

stays_one : {X : Type 0} (x y : Option X) (a : X) → StaysKnown x y → x ≡ Some a → y ≡ Some a
stays_one None y a stays is = cc
stays_one (Some b) y a stays is = stays ∙ is

pub stay_known : {A X T : Type 0} (view : A → Option X) (of : T → X) (was now : List A) (ts : List T) → StayIn view was now → map view was ≡ map (λ t. Some (of t)) ts → map view now ≡ map (λ t. Some (of t)) ts
stay_known view of [] [] ts stay is = is
stay_known view of [] (n ∷ now) ts stay is = absurd stay
stay_known view of (w ∷ was) [] ts stay is = absurd stay
stay_known view of (w ∷ was) (n ∷ now) [] stay is = cc
stay_known view of (w ∷ was) (n ∷ now) (t ∷ ts) stay is =
    let parts = cons_is (view w) (Some (of t)) (map view was) (map (λ t. Some (of t)) ts) is in
    ap (λ x. x ∷ map view now) (stays_one (view w) (view n) (of t) stay.0 parts.0) ∙ ap (λ xs. Some (of t) ∷ xs) (stay_known view of was now ts stay.1 parts.1)

module _ {R : Type 0} (remaining : R → Option (List ℕ)) where
  pub headers_stay : (was now : List (PartReader R)) → StayKnown remaining was now → StayIn (header_of remaining) was now
  headers_stay [] [] stay = tt
  headers_stay [] (n ∷ now) stay = absurd stay
  headers_stay (w ∷ was) [] stay = absurd stay
  headers_stay (w ∷ was) (n ∷ now) stay = (stay.0, headers_stay was now stay.2)

  pub comings_stay : (was now : List (PartReader R)) → StayKnown remaining was now → StayIn (coming_of remaining) was now
  comings_stay [] [] stay = tt
  comings_stay [] (n ∷ now) stay = absurd stay
  comings_stay (w ∷ was) [] stay = absurd stay
  comings_stay (w ∷ was) (n ∷ now) stay = (stay.1, comings_stay was now stay.2)

-- ---- the header of all

abbrev Header : Type 0
Header = Result (ℕ × List Range) Refusal

abbrev pub read_header : ℕ × List Range → Option (Result (ℕ × List Range) Refusal)
read_header header = Some (Ok header)

two_ok : {X : Type 0} (r : Result X Refusal) (s : Result (List X) Refusal) (x : X) (xs : List X) → r ≡ Ok x → s ≡ Ok xs → (r >>= λ a. s >>= λ as_more. Ok (a ∷ as_more)) ≡ Ok (x ∷ xs)
two_ok r s x xs one others = rw (one, others) refl

headers_read : (known : List Header) (headers : List (ℕ × List Range)) → map (λ (h : Header). Some h) known ≡ map read_header headers → all_headers known ≡ Ok headers
headers_read [] [] is = refl
headers_read [] (h ∷ hs) is = cc
headers_read (k ∷ ks) [] is = cc
headers_read (k ∷ ks) (h ∷ hs) is =
    let parts = cons_is (Some k) (read_header h) (map (λ (h : Header). Some h) ks) (map read_header hs) is in
    two_ok k (all_headers ks) h hs (some_is k (Ok h) parts.0) (headers_read ks hs parts.1)

no_other : (run first : ℕ) (headers : List (ℕ × List Range)) → first ≡ run → All (λ (h : ℕ × List Range). h.0 ≡ run) headers → list_any (λ other. not (eqb other first)) (map (λ (h : ℕ × List Range). h.0) headers) ≡ false
no_other run first [] is all = refl
no_other run first (h ∷ hs) is all =
    let own : h.0 ≡ run = All-head (λ (h : ℕ × List Range). h.0 ≡ run) h hs all in
    let same : eqb h.0 first ≡ true = grind (arith, nat_tests, own, is) in
    ap (λ t. not t || list_any (λ other. not (eqb other first)) (map (λ (h : ℕ × List Range). h.0) hs)) same ∙ no_other run first hs is (All-tail (λ (h : ℕ × List Range). h.0 ≡ run) h hs all)

abbrev other_run : Option Refusal
other_run = Some OtherRun

runs_agree : (run : ℕ) (headers : List (ℕ × List Range)) → 1 ≤ length headers → All (λ (h : ℕ × List Range). h.0 ≡ run) headers → runs_fault (map (λ (h : ℕ × List Range). h.0) headers) ≡ None
runs_agree run [] some all = absurd (omega (arith, some))
runs_agree run (h ∷ hs) some all = ap (λ (t : Bool). cond t other_run None) (no_other run h.0 hs (All-head (λ (h : ℕ × List Range). h.0 ≡ run) h hs all) (All-tail (λ (h : ℕ × List Range). h.0 ≡ run) h hs all))

module _ {R : Type 0} (remaining : R → Option (List ℕ)) (run : ℕ) (ranges : List Range) (inputs : List (PartReader R)) (headed : AreHeaded remaining run ranges inputs) where
  -- the headers of all are those of one join
  pub one_header : (headers : List Header) → map (header_of remaining) inputs ≡ map Some headers → headers_fault (all_headers headers) ≡ None
  one_header headers known = ap headers_fault (headers_read headers headed.headers (sym known ∙ headed.read)) ∙ runs_agree run headed.headers headed.of_all.some headed.of_all.one_run

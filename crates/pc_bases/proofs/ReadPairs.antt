-- What is read of pairs is what was written, and what was written is read again.
use Rattle.std.proofs.Common.{◌≡◌, ℕ, ◌-◌, ◌^◌, true, List, [], ◌∷◌, ◌++◌, length, Ok, ap, subst, ◌∙◌, refl, append_assoc, arith}
use Rattle.std.specs.Prelude.{slice_get}
use Rattle.std.specs.List.{flat_map}
use Rattle.std.specs.Ordering.{is_lt}
use Rattle.std.specs.Int.{w16, to_be_bytes}
use Rattle.std.proofs.lemmas.List.{length-append}
use Rattle.pc_types.specs.declared.Refusal.TheVariants.{Short}
use Rattle.pc_io.specs.declared.formats.Format.{Format}
use Rattle.pc_io.specs.Fields.{◌>>=◌, number_at, value_at, key_text_in, sized_key_text, HasKey, value_text}
use Rattle.pc_io.proofs.FieldLaws.{bind_ok, ok_is, TakesText-then, wide16, number_takes, number_again, value_takes, value_again}
use Rattle.pc_types.specs.Bytes.{IsBytes}
use Rattle.pc_io.specs.FieldForms.{TakesText}
use Rattle.pc_model.specs.Database.{key_cmp}
use Rattle.pc_part.specs.Reading.{next_key_at}
use Rattle.pc_part.proofs.ItemLaws.{items_take, items_again}
use Rattle.pc_part.proofs.NextKeyLaws.{key_takes, key_text_takes, key_again}
use Rattle.pc_part.proofs.ListLaws.{added_last}
use Rattle.pc_bases.specs.Lawful.{IsPair}
use Rattle.pc_bases.specs.Reading.{pair_at, pairs_at, pair_key_or_empty, last_pair_key}
use Rattle.pc_bases.specs.Texts.{pair_text_in}

abbrev Pair : Type 0
Pair = List ℕ × List ℕ

-- pairs within their limits, whose keys ascend, the first above this one, and each of which the format has a text
abbrev pub PairsFrom : Format → List ℕ → List Pair → Type 0
PairsFrom format last [] = Unit {0}
PairsFrom format last (p ∷ pairs) = (is_lt (key_cmp last p.0) ≡ true) × IsPair p × HasKey format p.0 × PairsFrom format p.0 pairs

pair_takes : (format : Format) (last bytes : List ℕ) (x : Pair × List ℕ) → IsBytes bytes → pair_at format last bytes ≡ Ok x → TakesText bytes (pair_text_in format x.0) x.1 × (is_lt (key_cmp last x.0.0) ≡ true) × IsPair x.0 × HasKey format x.0.0
unfolding pair_at
pair_takes format last bytes x fits e =
    let a = bind_ok (number_at Short w16 bytes) (λ count. next_key_at format last count.0 count.1 >>= λ key. value_at Short key.1 >>= λ value. Ok ((key.0, value.0), value.1)) x e in
    let k = bind_ok (next_key_at format last a.0.0 a.0.1) (λ key. value_at Short key.1 >>= λ value. Ok ((key.0, value.0), value.1)) x a.2 in
    let v = bind_ok (value_at Short k.0.1) (λ value. Ok ((k.0.0, value.0), value.1)) x k.2 in
    let len = number_takes Short w16 (2 ^ 16) wide16 bytes a.0.0 a.0.1 fits a.1 in
    let key = key_takes format last a.0.0 a.0.1 k.0 len.0.rest_fits k.1 in
    let value = value_takes Short k.0.1 v.0.0 v.0.1 key.0.rest_fits v.1 in
    let all = TakesText-then bytes (key_text_in format k.0.0) k.0.1 (value_text v.0.0) v.0.1 (key_text_takes format bytes a.0.0 a.0.1 k.0.0 k.0.1 len.0 key.0 key.1) value.0 in
    let made : Pair × List ℕ = ((k.0.0, v.0.0), v.0.1) in
    subst (λ (y : Pair × List ℕ). TakesText bytes (pair_text_in format y.0) y.1 × (is_lt (key_cmp last y.0.0) ≡ true) × IsPair y.0 × HasKey format y.0.0) {x = made} (ok_is made x v.2) (all, key.4, (key.2, value.1), key.3)

pair_again : (format : Format) (last : List ℕ) (pair : Pair) (rest : List ℕ) → is_lt (key_cmp last pair.0) ≡ true → IsPair pair → HasKey format pair.0 → pair_at format last (pair_text_in format pair ++ rest) ≡ Ok (pair, rest)
unfolding pair_at
pair_again format last pair rest above lawful has =
    let text : pair_text_in format pair ++ rest ≡ to_be_bytes w16 (length pair.0 - 2) ++ (sized_key_text format pair.0 ++ (value_text pair.1 ++ rest)) = regrouped (to_be_bytes w16 (length pair.0 - 2)) (sized_key_text format pair.0) (value_text pair.1) rest in
    let len = ap (number_at Short w16) text ∙ number_again Short w16 (2 ^ 16) wide16 (length pair.0 - 2) (sized_key_text format pair.0 ++ (value_text pair.1 ++ rest)) (omega (arith, lawful.0.1)) in
    rw (len, key_again format last pair.0 (value_text pair.1 ++ rest) lawful.0 has above, value_again Short pair.1 rest lawful.1) refl
  where
    regrouped : (len key value rest : List ℕ) → (((len ++ key) ++ value) ++ rest) ≡ len ++ (key ++ (value ++ rest))
    regrouped len key value rest = simp append_assoc

pub pairs_take : (format : Format) (count : ℕ) (last bytes : List ℕ) (x : List Pair × List ℕ) → IsBytes bytes → pairs_at format count last bytes ≡ Ok x → TakesText bytes (flat_map (pair_text_in format) x.0) x.1 × (length x.0 ≡ count) × PairsFrom format last x.0
pairs_take format = items_take _ _ (pair_text_in format) (PairsFrom format) (λ last. tt) (λ last bytes x fits e. let taken = pair_takes format last bytes x fits e in (taken.0, λ others rise. (taken.1, taken.2, taken.3, rise)))

pub pairs_again : (format : Format) (last : List ℕ) (pairs : List Pair) (rest : List ℕ) → PairsFrom format last pairs → pairs_at format (length pairs) last (flat_map (pair_text_in format) pairs ++ rest) ≡ Ok (pairs, rest)
pairs_again format = items_again _ _ (pair_text_in format) (PairsFrom format) (λ last pair pairs rest h. (pair_again format last pair rest h.0 h.1 h.2, h.3))

-- the last key is that of the pair that was added
pub last_pair_key_is : (pairs : List (List ℕ × List ℕ)) (pair : List ℕ × List ℕ) → last_pair_key (pairs ++ pair ∷ []) ≡ pair.0
last_pair_key_is pairs pair =
    let before : length (pairs ++ pair ∷ []) - 1 ≡ length pairs = omega (arith, length-append pairs (pair ∷ [])) in
    ap (λ (n : ℕ). pair_key_or_empty (slice_get (pairs ++ pair ∷ []) n)) before ∙ ap pair_key_or_empty (added_last pairs pair)

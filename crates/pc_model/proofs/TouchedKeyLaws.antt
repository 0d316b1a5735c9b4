-- Touched keys occur once each, and what is left of them after the first ones.
use Rattle.std.proofs.Common.{◌≡◌, ℕ, List, [], ◌∷◌, ◌++◌, refl, ap, ◌∙◌, cond, not, Bool, true, false, ◌||◌}
use Rattle.std.specs.List.{IsDistinct, AllByRecursion}
use Rattle.std.proofs.lemmas.Cmp.{eq_by_cmp_equiv}
use Rattle.std.proofs.lemmas.List.Elements.{filter-append}
use Rattle.std.proofs.lemmas.Map.Keys.{IsDistinct-push}
use Rattle.std.specs.Cmp.{IsEquivalence}
use Rattle.pc_types.specs.declared.Write.{Write}
use Rattle.pc_types.specs.declared.Entry.{Entry}
use Rattle.pc_types.specs.declared.Entry.TheVariants.{Commit, Token}
use Rattle.pc_model.specs.Database.{key_order, same_bytes}
use Rattle.pc_model.specs.Points.{is_among, with_key, with_keys, with_written, cycle, touched}
use Rattle.pc_model.specs.Replies.{without}

-- the laws of the keys' equality
key_laws : IsEquivalence same_bytes
key_laws = eq_by_cmp_equiv key_order.total

pub with_key_distinct : (keys : List (List ℕ)) (key : List ℕ) → IsDistinct same_bytes keys → IsDistinct same_bytes (with_key keys key)
with_key_distinct keys key once = by_there (is_among keys key) refl
  where
    by_there : (b : Bool) → is_among keys key ≡ b → IsDistinct same_bytes (cond b keys (keys ++ key ∷ []))
    by_there true there = once
    by_there false new = IsDistinct-push key_laws keys key once new

with_keys_distinct : (keys : List (List ℕ)) (ws : List Write) → IsDistinct same_bytes keys → IsDistinct same_bytes (with_keys keys ws)
with_keys_distinct keys [] once = once
with_keys_distinct keys (w ∷ ws) once = with_keys_distinct (with_key keys w.key) ws (with_key_distinct keys w.key once)

with_written_distinct : (keys : List (List ℕ)) (log : List Entry) → IsDistinct same_bytes keys → IsDistinct same_bytes (with_written keys log)
with_written_distinct keys [] once = once
with_written_distinct keys (Commit s ws ∷ log) once = with_written_distinct (with_keys keys ws) log (with_keys_distinct keys ws once)
with_written_distinct keys (Token phase point ∷ log) once = with_written_distinct keys log once

pub none_distinct : IsDistinct same_bytes []
unfolding IsDistinct
none_distinct = tt

-- no touched key is there twice
pub touched_distinct : (point : ℕ) (log : List Entry) → IsDistinct same_bytes (touched point log)
touched_distinct point log = with_written_distinct [] (cycle point log) none_distinct

-- with nothing gone all are left
pub without_none : (keys : List (List ℕ)) → without keys [] ≡ keys
without_none [] = refl
without_none (k ∷ keys) = ap (◌∷◌ k) (without_none keys)

abbrev AllIn : List (List ℕ) → List (List ℕ) → Type 0
AllIn gone keys = AllByRecursion (λ k. is_among gone k ≡ true) keys

abbrev AllOut : List (List ℕ) → List (List ℕ) → Type 0
AllOut gone keys = AllByRecursion (λ k. is_among gone k ≡ false) keys

or_true : (b : Bool) → (b || true) ≡ true
or_true true = refl
or_true false = refl

one_more_in : (key : List ℕ) (gone keys : List (List ℕ)) → AllIn gone keys → AllIn (key ∷ gone) keys
one_more_in key gone [] all = tt
one_more_in key gone (k ∷ keys) all = (ap (λ b. same_bytes k key || b) all.0 ∙ or_true (same_bytes k key), one_more_in key gone keys all.1)

all_in : (keys : List (List ℕ)) → AllIn keys keys
all_in [] = tt
all_in (k ∷ keys) = (ap (λ b. b || is_among keys k) (key_laws.refl k), one_more_in k keys keys (all_in keys))

-- of keys that all are gone none is left
none_left : (gone keys : List (List ℕ)) → AllIn gone keys → without keys gone ≡ []
none_left gone [] all = refl
none_left gone (k ∷ keys) all = ap (λ b. cond (not b) (k ∷ without keys gone) (without keys gone)) all.0 ∙ none_left gone keys all.1

-- of keys of which none is gone all are left
all_left : (gone keys : List (List ℕ)) → AllOut gone keys → without keys gone ≡ keys
all_left gone [] all = refl
all_left gone (k ∷ keys) all = ap (λ b. cond (not b) (k ∷ without keys gone) (without keys gone)) all.0 ∙ ap (◌∷◌ k) (all_left gone keys all.1)

none_gone : (keys : List (List ℕ)) → AllOut [] keys
none_gone [] = tt
none_gone (k ∷ keys) = (refl, none_gone keys)

one_more_out : (key : List ℕ) (gone first keys : List (List ℕ)) → AllByRecursion (λ k. same_bytes key k ≡ false) (first ++ keys) → AllOut gone keys → AllOut (key ∷ gone) keys
one_more_out key gone [] [] apart all = tt
one_more_out key gone [] (k ∷ keys) apart all = (ap (λ b. b || is_among gone k) (key_laws.symm k key ∙ apart.0) ∙ all.0, one_more_out key gone [] keys apart.1 all.1)
one_more_out key gone (f ∷ first) keys apart all = one_more_out key gone first keys apart.1 all

all_out : (gone keys : List (List ℕ)) → IsDistinct same_bytes (gone ++ keys) → AllOut gone keys
unfolding IsDistinct
all_out [] keys once = none_gone keys
all_out (g ∷ gone) keys once = one_more_out g gone gone keys once.0 (all_out gone keys once.1)

-- keys that occur once each, without the first ones, are the others
pub without_first : (gone keys : List (List ℕ)) → IsDistinct same_bytes (gone ++ keys) → without (gone ++ keys) gone ≡ keys
without_first gone keys once =
    filter-append (λ k. not (is_among gone k)) gone keys
    ∙ ap (λ left. left ++ without keys gone) (none_left gone gone (all_in gone))
    ∙ all_left gone keys (all_out gone keys once)

-- Inputs are passed, in order, and the newest entry of their key is kept.
use Rattle.std.proofs.Common.{◌≡◌, ℕ, suc, ◌<◌, ◌++◌, Bool, true, false, cond, List, [], ◌∷◌, Some, length, set, inl, inr, ⊎_elim, refl, sym, ap, ◌∙◌, subst, arith, append_assoc, length-set, slice_get}
use Rattle.std.specs.List.{Contains}
use Rattle.std.specs.declared.cmp.Ordering.{Ordering}
use Rattle.std.specs.declared.cmp.Ordering.TheVariants.{Less, Equal, Greater}
use Rattle.std.specs.Ordering.{is_eq, ordering_reverse}
use Rattle.std.specs.FinMap.{is_sorted}
use Rattle.std.specs.FinMap.Entries.{below_all}
use Rattle.std.specs.Cmp.{tied_itself}
use Rattle.std.proofs.lemmas.Bool.{cases_eq, cases_lt}
use Rattle.std.proofs.lemmas.List.{get_or_default, get_or_past, get_or-map, get_or-set_same, get_or-set_other, length-map, map-set, set-get_or}
use Rattle.std.proofs.lemmas.List.Elements.{Contains-append_right}
use Rattle.pc_types.specs.declared.Refusal.{Refusal}
use Rattle.pc_types.specs.declared.Triple.{Triple}
use Rattle.pc_model.specs.Database.{key_cmp, key_order, same_bytes, KeysRise}
use Rattle.pc_model.specs.TripleLists.{map_entries}
use Rattle.pc_model.proofs.RisingLaws.{both}
use Rattle.pc_merge.specs.Coming.{Coming, ended}
use Rattle.pc_merge.specs.Drawing.{AreRests, IsRest, input_at}
use Rattle.pc_merge.specs.Merging.{IsBelow, IsCause, all_behind, input_after_key, entries_behind, first_to_come, firsts_of}

-- ---- rests

pub rest_itself : (input : Coming) → IsRest input input
rest_itself input = record { front = []; entries = refl; fault = refl }

rest_trans : (was now then : Coming) → IsRest was now → IsRest now then → IsRest was then
rest_trans was now then first second = record {
  front = first.front ++ second.front;
  entries = first.entries ∙ ap (λ es. first.front ++ es) second.entries ∙ sym (append_assoc first.front second.front then.entries);
  fault = first.fault ∙ second.fault;
}

-- what is after a key is a rest
pub rest_behind : (key : List ℕ) (input : Coming) → IsRest input (input_after_key key input)
rest_behind key input = record { front = (front_of input.entries).0; entries = (front_of input.entries).1; fault = refl }
  where
    by_key : (entry : Triple) (entries : List Triple) (b : Bool) → (front : List Triple) × (entry ∷ entries ≡ front ++ cond b entries (entry ∷ entries))
    by_key entry entries true = (entry ∷ [], refl)
    by_key entry entries false = ([], refl)

    front_of : (entries : List Triple) → (front : List Triple) × (entries ≡ front ++ entries_behind key entries)
    front_of [] = ([], refl)
    front_of (entry ∷ entries) = by_key entry entries (same_bytes entry.key key)

-- the inputs with the rest of one in its place
pub rests_set : (was now : List Coming) (place : ℕ) (input : Coming) → AreRests was now → IsRest (input_at now place) input → place < length now → AreRests was (set now place input)
rests_set was now place input rests rest within = record {
  many = length-set now place input ∙ rests.many;
  each = λ other. ⊎_elim
      (λ (same : other ≡ place). rw (same, get_or-set_same now place input ended within) (rest_trans (input_at was place) (input_at now place) input (rests.each place) rest))
      (λ apart. rw (get_or-set_other now place other input ended apart) (rests.each other))
      (cases_eq other place);
}

pub rests_begin : (was : List Coming) → AreRests was was
rests_begin was = record { many = refl; each = λ place. rest_itself (input_at was place) }

rise_rest : (front entries : List Triple) → KeysRise (map_entries (front ++ entries)) → KeysRise (map_entries entries)
rise_rest [] entries rise = rise
rise_rest (entry ∷ front) entries rise = rise_rest front entries (both (below_all key_cmp entry.key (map_entries (front ++ entries))) (is_sorted key_cmp (map_entries (front ++ entries))) rise).1

-- a cause in the rests is one in what was
module _ (was now : List Coming) (rests : AreRests was now) where
  -- the input of which this is the rest
  before : (input : Coming) → Contains now input → (one : Coming) × Contains was one × IsRest one input
  before input there =
      let many = rests.many in let within = there.1 in
      let less : there.0 < length was = omega arith in
      let same : input_at now there.0 ≡ input = get_or_default now there.0 ended input within ∙ there.2 in
      (input_at was there.0, (there.0, less, get_or_default was there.0 (input_at was there.0) ended less), subst (IsRest (input_at was there.0)) same (rests.each there.0))

  among_before : (one input : Coming) (entry : Triple) → IsRest one input → Contains input.entries entry → Contains one.entries entry
  among_before one input entry rest there = subst (λ (es : List Triple). Contains es entry) (sym rest.entries) (Contains-append_right rest.front input.entries entry there)

  pub cause_before : (why : Refusal) → IsCause now why → IsCause was why
  cause_before why (inl memory) = inl memory
  cause_before why (inr (inl device)) = inr (inl device)
  cause_before why (inr (inr (inl fault))) = let b = before fault.0 fault.1 in inr (inr (inl (b.0, b.1, b.2.fault ∙ fault.2)))
  cause_before why (inr (inr (inr (inl (is, conflict))))) =
      let one = before conflict.one conflict.one_among in let other = before conflict.other conflict.other_among in
      inr (inr (inr (inl (
        is,
        record {
          one = one.0;
          other = other.0;
          one_among = one.1;
          other_among = other.1;
          entry = conflict.entry;
          second = conflict.second;
          entry_among = among_before one.0 conflict.one conflict.entry one.2 conflict.entry_among;
          second_among = among_before other.0 conflict.other conflict.second other.2 conflict.second_among;
          key = conflict.key;
          point = conflict.point;
          differ = conflict.differ;
        },
      ))))
  cause_before why (inr (inr (inr (inr (is, none))))) =
      let b = before none.0 none.1 in
      inr (inr (inr (inr (is, (b.0, b.1, λ rise. none.2 (rise_rest b.2.front none.0.entries (subst (λ (es : List Triple). KeysRise (map_entries es)) b.2.entries rise)))))))

-- ---- keys

not_itself : (key : List ℕ) → key_cmp key key ≡ Less → ⊥
not_itself key less = let bad = sym (tied_itself key_order.total key) ∙ less in cc

reversed : (o : Ordering) → o ≡ Less → is_eq (ordering_reverse o) ≡ false
reversed Less e = refl
reversed Equal e = cc
reversed Greater e = cc

-- a greater key is another one
pub other_key : (key greater : List ℕ) → key_cmp key greater ≡ Less → same_bytes greater key ≡ false
other_key key greater less = ap is_eq (key_order.total.antisymm greater key) ∙ reversed (key_cmp key greater) less

-- if all is above the key, all is after it
behind_above : (key : List ℕ) (input : Coming) → IsBelow key (first_to_come input) → input_after_key key input ≡ input
behind_above key input above = ap (λ (es : List Triple). record { entries = es; fault = input.fault }) (same input.entries above)
  where
    same : (entries : List Triple) → IsBelow key (slice_get entries 0) → entries_behind key entries ≡ entries
    same [] above = refl
    same (entry ∷ entries) above = ap (λ (b : Bool). cond b entries (entry ∷ entries)) (other_key key entry.key above)

pub all_above : (key : List ℕ) (inputs : List Coming) → ((place : ℕ) → IsBelow key (first_to_come (input_at inputs place))) → all_behind key inputs ≡ inputs
all_above key [] above = refl
all_above key (input ∷ inputs) above = let first = behind_above key input (above 0) in let rest = all_above key inputs (λ place. above (suc place)) in ap (λ (c : Coming). c ∷ all_behind key inputs) first ∙ ap (λ (cs : List Coming). input ∷ cs) rest

-- what is after the key stays if one input is passed
pub behind_set : (key : List ℕ) (inputs : List Coming) (place : ℕ) → place < length inputs → IsBelow key (first_to_come (input_after_key key (input_at inputs place))) → all_behind key (set inputs place (input_after_key key (input_at inputs place))) ≡ all_behind key inputs
behind_set key inputs place within above =
    map-set (input_after_key key) inputs place (input_after_key key (input_at inputs place))
    ∙ ap (set (all_behind key inputs) place) (behind_above key (input_after_key key (input_at inputs place)) above ∙ sym (get_or-map (input_after_key key) inputs place ended ended within))
    ∙ set-get_or (all_behind key inputs) place ended

-- ---- first entries

-- an entry that an input begins with is among the first ones, and among the input's
pub first_among : (inputs : List Coming) (place : ℕ) (entry : Triple) → first_to_come (input_at inputs place) ≡ Some entry → Contains (firsts_of inputs) (Some entry)
first_among inputs place entry first = ⊎_elim
    (λ (less : place < length inputs). (place, (let same = length-map inputs first_to_come in omega (arith, same, less)), get_or-map first_to_come inputs place ended (Some entry) less ∙ first))
    (λ more. let bad = sym (ap first_to_come (get_or_past inputs place ended more)) ∙ first in cc)
    (cases_lt place (length inputs))

begins : (entries : List Triple) (entry : Triple) → slice_get entries 0 ≡ Some entry → Contains entries entry
begins [] entry first = cc
begins (one ∷ entries) entry first = let same : one ≡ entry = cc in (0, omega arith, same)

-- an input that begins with the entry
pub beginning : (inputs : List Coming) (entry : Triple) → Contains (firsts_of inputs) (Some entry) → (input : Coming) × Contains inputs input × Contains input.entries entry
beginning inputs entry there =
    let same = length-map inputs first_to_come in let within = there.1 in
    let less : there.0 < length inputs = omega arith in
    let first : first_to_come (input_at inputs there.0) ≡ Some entry = sym (get_or-map first_to_come inputs there.0 ended (Some entry) less) ∙ there.2 in
    (input_at inputs there.0, (there.0, less, get_or_default inputs there.0 (input_at inputs there.0) ended less), begins (input_at inputs there.0).entries entry first)

-- The entries that a merge has given until all inputs have ended are the join of them.
use Rattle.std.proofs.Common.{◌≡◌, ℕ, zero, suc, ◌<◌, nat_lt, Bool, true, false, cond, List, [], ◌∷◌, Option, Some, None, length, map, get_or, slice_get, ◌⊎◌, inl, inr, ⊎_elim, refl, sym, ap, ◌∙◌, subst, arith}
use Rattle.std.specs.List.{All, Contains}
use Rattle.std.specs.Ordering.{is_eq, is_lt}
use Rattle.std.specs.FinMap.{find, is_sorted}
use Rattle.std.specs.FinMap.Entries.{below_all}
use Rattle.std.specs.Cmp.{tied_itself}
use Rattle.std.proofs.lemmas.Bool.{cases_lt, ltb-true, ltb-false}
use Rattle.std.proofs.lemmas.List.{get_or_past, get_or_default, length-map}
use Rattle.pc_types.specs.declared.Triple.{Triple}
use Rattle.pc_model.specs.Maps as map_of
use Rattle.pc_model.specs.Database.{key_cmp, key_order, same_bytes, KeysRise}
use Rattle.pc_model.specs.Points.{AtPoint, Triples, later}
use Rattle.pc_model.specs.TripleLists.{entry_of, map_entries, triples_of}
use Rattle.pc_model.proofs.JoinLaws.{get-joined, one_key}
use Rattle.pc_model.proofs.MapLaws.{get-empty, get-from_list, same_map}
use Rattle.pc_model.proofs.RisingLaws.{and_of, both, lesser_below, none_below}
use Rattle.pc_merge.specs.Coming.{Coming, ended}
use Rattle.pc_merge.specs.Drawing.{AreRests, IsRest, input_at}
use Rattle.pc_merge.specs.Given.{HasGiven, joined_all, IsUnderAt, IsUnder, EndsAreMerges, GivenGrows, CausesStand}
use Rattle.pc_merge.specs.Merging.{AreEnded, GivesFirst, IsBelow, IsBest, IsCause, IsNewest, all_behind, input_after_key, entries_behind, first_to_come, firsts_of}
use Rattle.pc_merge.proofs.PassingLaws.{cause_before, rest_behind}

-- ---- one entry more

pub given_grows : GivenGrows
given_grows start [] left entry has first = (subst (λ (cs : List Coming). GivesFirst cs entry) (sym has) first, ap (all_behind entry.key) has)
given_grows start (one ∷ given) left entry has first = (has.0, given_grows (all_behind one.key start) given left entry has.1 first)

-- ---- places

behind_at : (key : List ℕ) (inputs : List Coming) (place : ℕ) → input_at (all_behind key inputs) place ≡ input_after_key key (input_at inputs place)
behind_at key [] place = refl
behind_at key (input ∷ inputs) zero = refl
behind_at key (input ∷ inputs) (suc place) = behind_at key inputs place

first_at_place : (inputs : List Coming) (place : ℕ) → get_or (firsts_of inputs) place None ≡ first_to_come (input_at inputs place)
first_at_place [] place = refl
first_at_place (input ∷ inputs) zero = refl
first_at_place (input ∷ inputs) (suc place) = first_at_place inputs place

-- what holds of all first entries holds at each place
of_first : (P : Option Triple → Type 0) (inputs : List Coming) → P None → All P (firsts_of inputs) → (place : ℕ) → P (first_to_come (input_at inputs place))
of_first P inputs none all place = subst P (first_at_place inputs place) (⊎_elim
    (λ (less : place < length (firsts_of inputs)). all place None less)
    (λ more. subst P (sym (get_or_past (firsts_of inputs) place None more)) none)
    (cases_lt place (length (firsts_of inputs))))

rises_at : (inputs : List Coming) (entry : Triple) → GivesFirst inputs entry → (place : ℕ) → IsBelow entry.key (first_to_come (input_after_key entry.key (input_at inputs place)))
rises_at inputs entry first place = subst (λ (c : Coming). IsBelow entry.key (first_to_come c)) (behind_at entry.key inputs place) (of_first (IsBelow entry.key) (all_behind entry.key inputs) tt first.rises place)

-- the place of the entry that is given
place_of : (inputs : List Coming) (entry : Triple) → Contains (firsts_of inputs) (Some entry) → (place : ℕ) × (first_to_come (input_at inputs place) ≡ Some entry)
place_of inputs entry there = (there.0, sym (first_at_place inputs there.0) ∙ get_or_default (firsts_of inputs) there.0 None (Some entry) there.1 ∙ there.2)

-- each input that has ended
ended_at : (inputs : List Coming) → AreEnded inputs → (place : ℕ) → input_at inputs place ≡ ended
ended_at inputs all place = ⊎_elim (λ (less : place < length inputs). all place ended less) (λ more. get_or_past inputs place ended more) (cases_lt place (length inputs))

-- what holds of the input at each place holds of all
all_from_each : (P : Coming → Type 0) (inputs : List Coming) → ((place : ℕ) → P (input_at inputs place)) → All P inputs
all_from_each P inputs each place other within = subst P (get_or_default inputs place ended other within) (each place)

-- ---- causes

rests_behind : (key : List ℕ) (inputs : List Coming) → AreRests inputs (all_behind key inputs)
rests_behind key inputs = record {
  many = length-map inputs (input_after_key key);
  each = λ place. subst (IsRest (input_at inputs place)) (sym (behind_at key inputs place)) (rest_behind key (input_at inputs place));
}

pub causes_stand : CausesStand
causes_stand start [] left why has cause = subst (λ (cs : List Coming). IsCause cs why) (sym has) cause
causes_stand start (entry ∷ given) left why has cause = cause_before start (all_behind entry.key start) (rests_behind entry.key start) why (causes_stand (all_behind entry.key start) given left why has.1 cause)

-- ---- keys that ascend

below_first : (key : List ℕ) (entries : List Triple) → KeysRise (map_entries entries) → IsBelow key (slice_get entries 0) → below_all key_cmp key (map_entries entries) ≡ true
below_first key [] rise below = refl
below_first key (entry ∷ entries) rise below =
    let parts = both (below_all key_cmp entry.key (map_entries entries)) (is_sorted key_cmp (map_entries entries)) rise in
    and_of (is_lt (key_cmp key entry.key)) (below_all key_cmp key (map_entries entries)) (ap is_lt below) (lesser_below key entry.key (map_entries entries) below parts.0)

rise_whole : (key : List ℕ) (entries : List Triple) → KeysRise (map_entries (entries_behind key entries)) → IsBelow key (slice_get (entries_behind key entries) 0) → KeysRise (map_entries entries)
rise_whole key [] rise below = rise
rise_whole key (entry ∷ entries) rise below = by (same_bytes entry.key key) refl rise below
  where
    by : (b : Bool) → same_bytes entry.key key ≡ b → KeysRise (map_entries (cond b entries (entry ∷ entries))) → IsBelow key (slice_get (cond b entries (entry ∷ entries)) 0) → KeysRise (map_entries (entry ∷ entries))
    by true same rise below = and_of (below_all key_cmp entry.key (map_entries entries)) (is_sorted key_cmp (map_entries entries))
        (subst (λ k. below_all key_cmp k (map_entries entries) ≡ true) (sym (one_key entry.key key same)) (below_first key entries rise below)) rise
    by false other rise below = rise

module _ (left : List Coming) (all : AreEnded left) where
  inputs_rise : (start : List Coming) (given : List Triple) → HasGiven start given left → (place : ℕ) → KeysRise (map_entries (input_at start place).entries)
  inputs_rise start [] has place = subst (λ (c : Coming). KeysRise (map_entries c.entries)) (sym (ap (λ cs. input_at cs place) has ∙ ended_at left all place)) refl
  inputs_rise start (entry ∷ given) has place =
      rise_whole entry.key (input_at start place).entries
      (subst (λ (c : Coming). KeysRise (map_entries c.entries)) (behind_at entry.key start place) (inputs_rise (all_behind entry.key start) given has.1 place))
      (rises_at start entry has.0 place)

  no_faults : (start : List Coming) (given : List Triple) → HasGiven start given left → (place : ℕ) → (input_at start place).fault ≡ None
  no_faults start [] has place = ap (λ (c : Coming). c.fault) (ap (λ cs. input_at cs place) has ∙ ended_at left all place)
  no_faults start (entry ∷ given) has place = sym (ap (λ (c : Coming). c.fault) (behind_at entry.key start place)) ∙ no_faults (all_behind entry.key start) given has.1 place

  -- the next entry is above the last one
  next_above : (key : List ℕ) (start : List Coming) (given : List Triple) → ((place : ℕ) → IsBelow key (first_to_come (input_at start place))) → HasGiven start given left → IsBelow key (slice_get given 0)
  next_above key start [] above has = tt
  next_above key start (entry ∷ given) above has = let there = place_of start entry has.0.of in subst (IsBelow key) there.1 (above there.0)

  given_rise : (start : List Coming) (given : List Triple) → HasGiven start given left → KeysRise (map_entries given)
  given_rise start [] has = refl
  given_rise start (entry ∷ given) has =
      let rest = given_rise (all_behind entry.key start) given has.1 in
      and_of (below_all key_cmp entry.key (map_entries given)) (is_sorted key_cmp (map_entries given))
      (below_first entry.key given rest (next_above entry.key (all_behind entry.key start) given (λ place. subst (λ (c : Coming). IsBelow entry.key (first_to_come c)) (sym (behind_at entry.key start place)) (rises_at start entry has.0 place)) has.1))
      rest

-- ---- what each key has

abbrev found : List ℕ → List Triple → Option AtPoint
found key entries = find key_cmp key (map_entries entries)

abbrev at_point : Triple → AtPoint
at_point entry = (entry_of entry).1

-- the given entries have of the key what is newest, and what one of the inputs has
record IsTop (inputs : List Coming) (key : List ℕ) (top : Option AtPoint) : Type 0 where
  under : (place : ℕ) → IsUnderAt (found key (input_at inputs place).entries) top
  among : (top ≡ None) ⊎ ((place : ℕ) × (found key (input_at inputs place).entries ≡ top))

found_first : (key : List ℕ) (entry : Triple) (entries : List Triple) → key ≡ entry.key → found key (entry ∷ entries) ≡ Some (at_point entry)
found_first key entry entries same = ap (λ (b : Bool). cond b (Some (at_point entry)) (found key entries)) (ap (same_bytes key) (sym same) ∙ ap is_eq (tied_itself key_order.total key))

-- an input that begins with an entry that is no better
under_best : (entry : Triple) (entries : List Triple) → KeysRise (map_entries entries) → IsBest entry (slice_get entries 0) → IsUnderAt (found entry.key entries) (Some (at_point entry))
under_best entry [] rise best = tt
under_best entry (first ∷ entries) rise (inl less) = subst (λ x. IsUnderAt x (Some (at_point entry))) (sym (none_below entry.key (map_entries (first ∷ entries)) (below_first entry.key (first ∷ entries) rise less))) tt
under_best entry (first ∷ entries) rise (inr (same, newest)) = subst (λ x. IsUnderAt x (Some (at_point entry))) (sym (found_first entry.key first entries same)) (older newest)
  where
    older : IsNewest entry first → (first.point < entry.point) ⊎ (at_point first ≡ at_point entry)
    older (inl less) = inl less
    older (inr is) = inr (ap at_point is)

-- of another key the same is found after
found_behind : (key other : List ℕ) (entries : List Triple) → same_bytes key other ≡ false → found key (entries_behind other entries) ≡ found key entries
found_behind key other [] apart = refl
found_behind key other (entry ∷ entries) apart = by (same_bytes entry.key other) refl
  where
    by : (b : Bool) → same_bytes entry.key other ≡ b → found key (cond b entries (entry ∷ entries)) ≡ found key (entry ∷ entries)
    by true same = sym (ap (λ (b : Bool). cond b (Some (at_point entry)) (found key entries)) (ap (same_bytes key) (one_key entry.key other same) ∙ apart))
    by false no_other = refl

begins_found : (key : List ℕ) (entry : Triple) (entries : List Triple) → key ≡ entry.key → slice_get entries 0 ≡ Some entry → found key entries ≡ Some (at_point entry)
begins_found key entry [] same first = cc
begins_found key entry (one ∷ entries) same first = let is : one ≡ entry = cc in ap (λ (t : Triple). found key (t ∷ entries)) is ∙ found_first key entry entries same

module _ (left : List Coming) (all : AreEnded left) (key : List ℕ) where
  tops : (start : List Coming) (given : List Triple) → HasGiven start given left → IsTop start key (found key given)
  tops start [] has = record {
    under = λ place. subst (λ (c : Coming). IsUnderAt (found key c.entries) None) (sym (ap (λ cs. input_at cs place) has ∙ ended_at left all place)) tt;
    among = inl refl;
  }
  tops start (entry ∷ given) has = by (tops (all_behind entry.key start) given has.1) (same_bytes key entry.key) refl
    where
      by : IsTop (all_behind entry.key start) key (found key given) → (b : Bool) → same_bytes key entry.key ≡ b → IsTop start key (cond b (Some (at_point entry)) (found key given))
      by rest true same = let is = one_key key entry.key same in record {
        under = λ place. subst (λ k. IsUnderAt (found k (input_at start place).entries) (Some (at_point entry))) (sym is)
            (under_best entry (input_at start place).entries (inputs_rise left all start (entry ∷ given) has place) (of_first (IsBest entry) start tt has.0.best place));
        among = let there = place_of start entry has.0.of in inr (there.0, begins_found key entry (input_at start there.0).entries is there.1);
      }
      by rest false apart = record {
        under = λ place. subst (λ x. IsUnderAt x (found key given)) (ap (λ (c : Coming). found key c.entries) (behind_at entry.key start place) ∙ found_behind key entry.key (input_at start place).entries apart) (rest.under place);
        among = ⊎_elim (λ none. inl none) (λ there. inr (there.0, sym (ap (λ (c : Coming). found key c.entries) (behind_at entry.key start there.0) ∙ found_behind key entry.key (input_at start there.0).entries apart) ∙ there.1)) rest.among;
      }

-- ---- the join

later_under : (a b y : Option AtPoint) → IsUnderAt a y → IsUnderAt b y → IsUnderAt (later a b) y
later_under a None y p q = p
later_under None (Some b) y p q = q
later_under (Some a) (Some b) y p q = by (nat_lt a.point b.point)
  where
    by : (c : Bool) → IsUnderAt (Some (cond c b a)) y
    by true = q
    by false = p

later_top : (t : AtPoint) (y : Option AtPoint) → IsUnderAt y (Some t) → later (Some t) y ≡ Some t
later_top t None under = refl
later_top t (Some b) under = by (nat_lt t.point b.point) refl under
  where
    by : (c : Bool) → nat_lt t.point b.point ≡ c → (b.point < t.point) ⊎ (b ≡ t) → Some (cond c b t) ≡ Some t
    by false e under = refl
    by true e (inl less) = let more = ltb-true t.point b.point e in absurd (omega (arith, less, more))
    by true e (inr same) = ap (λ (x : AtPoint). Some x) same

top_later : (x : Option AtPoint) (t : AtPoint) → IsUnderAt x (Some t) → later x (Some t) ≡ Some t
top_later None t under = refl
top_later (Some a) t under = by (nat_lt a.point t.point) refl under
  where
    by : (c : Bool) → nat_lt a.point t.point ≡ c → (a.point < t.point) ⊎ (a ≡ t) → Some (cond c t a) ≡ Some t
    by true e under = refl
    by false e (inl less) = let not_less = ltb-false a.point t.point e in absurd (omega (arith, less, not_less))
    by false e (inr same) = ap (λ (x : AtPoint). Some x) same

abbrev each_triples : List Coming → List Triples
each_triples inputs = map (λ (input : Coming). triples_of input.entries) inputs

module _ (key : List ℕ) where
  abbrev joined_at : List Coming → Option AtPoint
  joined_at inputs = map_of.get (joined_all (each_triples inputs)) key

  joined_more : (input : Coming) (inputs : List Coming) → joined_at (input ∷ inputs) ≡ later (found key input.entries) (joined_at inputs)
  joined_more input inputs = get-joined (triples_of input.entries) (joined_all (each_triples inputs)) key
      ∙ ap (λ x. later x (joined_at inputs)) (get-from_list key_order (map_entries input.entries) key)

  joined_under : (inputs : List Coming) (top : Option AtPoint) → ((place : ℕ) → IsUnderAt (found key (input_at inputs place).entries) top) → IsUnderAt (joined_at inputs) top
  joined_under [] top under = subst (λ x. IsUnderAt x top) (sym (get-empty key_order key)) tt
  joined_under (input ∷ inputs) top under = subst (λ x. IsUnderAt x top) (sym (joined_more input inputs)) (later_under (found key input.entries) (joined_at inputs) top (under 0) (joined_under inputs top (λ place. under (suc place))))

  joined_top : (inputs : List Coming) (top : AtPoint) (place : ℕ) → ((place : ℕ) → IsUnderAt (found key (input_at inputs place).entries) (Some top)) → found key (input_at inputs place).entries ≡ Some top → joined_at inputs ≡ Some top
  joined_top [] top place under there = cc
  joined_top (input ∷ inputs) top zero under there = joined_more input inputs ∙ ap (λ x. later x (joined_at inputs)) there ∙ later_top top (joined_at inputs) (joined_under inputs (Some top) (λ place. under (suc place)))
  joined_top (input ∷ inputs) top (suc place) under there = joined_more input inputs ∙ ap (later (found key input.entries)) (joined_top inputs top place (λ p. under (suc p)) there) ∙ top_later (found key input.entries) top (under 0)

  none_under : (x : Option AtPoint) → IsUnderAt x None → x ≡ None
  none_under None under = refl
  none_under (Some a) under = absurd under

  joined_is : (inputs : List Coming) (top : Option AtPoint) → IsTop inputs key top → joined_at inputs ≡ top
  joined_is inputs None is = none_under (joined_at inputs) (joined_under inputs None is.under)
  joined_is inputs (Some top) is = ⊎_elim (λ (none : Some top ≡ None). cc) (λ there. joined_top inputs top there.0 is.under there.1) is.among

pub ends_are_merges : EndsAreMerges
ends_are_merges start given left has all = record {
  rise = given_rise left all start given has;
  joined = same_map (triples_of given) (joined_all (each_triples start)) (λ key. get-from_list key_order (map_entries given) key ∙ sym (joined_is key start (found key given) (tops left all key start given has)));
  over = all_from_each (λ (input : Coming). IsUnder (triples_of input.entries) (triples_of given)) start (λ place key.
      subst (IsUnderAt (map_of.get (triples_of (input_at start place).entries) key)) (sym (get-from_list key_order (map_entries given) key))
      (subst (λ x. IsUnderAt x (found key given)) (sym (get-from_list key_order (map_entries (input_at start place).entries) key)) ((tops left all key start given has).under place)));
  inputs_rise = all_from_each (λ (input : Coming). KeysRise (map_entries input.entries)) start (inputs_rise left all start given has);
  no_fault = all_from_each (λ (input : Coming). input.fault ≡ None) start (no_faults left all start given has);
}

-- Two lists of entries as one: what a put into either does.
use Rattle.std.proofs.Common.{◌≡◌, ◌↔◌, ℕ, zero, suc, ◌-◌, ◌+◌, ◌<◌, List, [], ◌∷◌, ◌++◌, length, get_or, slice_set, Option, Some, None, is_some, Bool, true, false, cond, refl, sym, ap, subst, ◌∙◌, arith}
use Rattle.std.specs.Prelude.{IsTrue, IsSome}
use Rattle.std.specs.Cmp.{eq_by_cmp_equiv}
use Rattle.std.specs.List.{slice_get}
use Rattle.std.specs.Ordering.{is_lt}
use Rattle.std.specs.declared.cmp.Ordering.{Ordering}
use Rattle.std.specs.declared.cmp.Ordering.TheVariants.{Less, Equal, Greater}
use Rattle.std.specs.FinMap.{find, put, is_sorted}
use Rattle.std.specs.FinMap.Entries.{below_all, by_order, find-put, is_sorted-put, same_entries}
use Rattle.std.proofs.lemmas.List.{length-map}
use Rattle.itertools.specs.List.{by_ordering}
use Rattle.pc_model.specs.Database.{key_cmp, key_order, same_bytes, KeysRise}
use Rattle.pc_model.specs.Merges.{gathered}
use Rattle.pc_model.specs.Places.{IsAt}
use Rattle.pc_model.proofs.JoinLaws.{one_key}
use Rattle.pc_model.proofs.PairMapLaws.{computes, tested}
use Rattle.pc_model.proofs.RisingLaws.{both, is_less}
use Rattle.pc_model.proofs.SearchLaws.{turned}
use Rattle.pc_model.proofs.MergeLaws.{Merges, merges, merged_items}
use Rattle.pc_model.proofs.MergeItemLaws.{items}
use Rattle.itertools.specs.declared.either_or_both.EitherOrBoth.{EitherOrBoth}
use Rattle.itertools.specs.declared.either_or_both.EitherOrBoth.TheVariants.{Both, Left, Right}
use Rattle.pc_taken.specs.Takings.{Captured, newest, as_one, IsAbove, AreTaken}

-- a key above all is the last one: to put it is to add it after them
put_above : (key : List ℕ) (x : Option (List ℕ)) (es : List Captured) → IsAbove key es → put key_cmp key x es ≡ es ++ (key, x) ∷ []
put_above key x [] above = refl
put_above key x (e ∷ es) above = ap (λ o. by_order o ((key, x) ∷ e ∷ es) ((e.0, x) ∷ es) (e ∷ put key_cmp key x es)) above.0 ∙ ap (λ l. e ∷ l) (put_above key x es above.1)

-- comparing the last entry with a key tells whether the key is above all
same_entry : (x e : Captured) → Some x ≡ Some e → x ≡ e
same_entry x e is = cc

above_by : (key : List ℕ) (es : List Captured) (i : ℕ) (e : Captured) → KeysRise es → suc i ≡ length es → slice_get es i ≡ Some e → key_cmp key e.0 ≡ Greater → IsAbove key es
above_by key [] i e rise at_end is above = absurd (omega (arith, at_end))
above_by key (x ∷ []) zero e rise at_end is above = (ap (λ (y : Captured). key_cmp key y.0) (same_entry x e is) ∙ above, tt)
above_by key (x ∷ []) (suc i) e rise at_end is above = absurd (omega (arith, at_end))
above_by key (x ∷ y ∷ ys) zero e rise at_end is above = absurd (omega (arith, at_end))
above_by key (x ∷ y ∷ ys) (suc i) e rise at_end is above =
    let parts = both (below_all key_cmp x.0 (y ∷ ys)) (is_sorted key_cmp (y ∷ ys)) rise in
    let rest = above_by key (y ∷ ys) i e parts.1 (omega (arith, at_end)) is above in
    let next : key_cmp x.0 y.0 ≡ Less = is_less (key_cmp x.0 y.0) (both (is_lt (key_cmp x.0 y.0)) (below_all key_cmp x.0 ys) parts.0).0 in
    (turned x.0 key Less (key_order.total.trans x.0 y.0 key next (turned key y.0 Greater rest.0)), rest)

above_at : (key : List ℕ) (es : List Captured) (i : ℕ) (e : Captured) → slice_get es i ≡ Some e → IsAbove key es → key_cmp key e.0 ≡ Greater
above_at key [] i e is above = absurd (none e is)
  where
    none : (e : Captured) → None ≡ Some e → ⊥
    none e is = cc
above_at key (x ∷ xs) zero e is above = ap (λ (y : Captured). key_cmp key y.0) (sym (same_entry x e is)) ∙ above.0
above_at key (x ∷ xs) (suc i) e is above = above_at key xs i e is above.1

pub above_last : (key : List ℕ) (es : List Captured) (e : Captured) (b : Bool) → KeysRise es → Some e ≡ slice_get es (length es - 1) → b ≡ is_lt (key_cmp e.0 key) → IsTrue b ↔ IsAbove key es
above_last key [] e b rise is test = absurd (none e is)
  where
    none : (e : Captured) → Some e ≡ None → ⊥
    none e is = cc
above_last key (x ∷ xs) e b rise is test = (
  λ holds. above_by key (x ∷ xs) (length xs) e rise refl at (turned e.0 key Less (is_less (key_cmp e.0 key) (sym test ∙ holds))),
  λ above. test ∙ ap is_lt (turned key e.0 Greater (above_at key (x ∷ xs) (length xs) e at above)),
)
  where
    place : length (x ∷ xs) - 1 ≡ length xs
    place = omega arith

    at : slice_get (x ∷ xs) (length xs) ≡ Some e
    at = ap (slice_get (x ∷ xs)) (sym place) ∙ sym is

-- a key above a longer list is above its prefix
above_less : (q : List ℕ) (es more : List Captured) → IsAbove q (es ++ more) → IsAbove q es
above_less q [] more above = tt
above_less q (e ∷ es) more above = (above.0, above_less q es more above.1)

-- both lists as one have at each key what the second has, or else the first
module _ (rising others : List Captured) (rise : KeysRise rising) (others_rise : KeysRise others) where
  as_merge : Merges newest rising others (as_one rising others)
  as_merge = merges newest refl rising others rise others_rise

  pub one_rises : KeysRise (as_one rising others)
  one_rises = as_merge.rise

  pub find_one : (q : List ℕ) → find key_cmp q (as_one rising others) ≡ newest (find key_cmp q rising) (find key_cmp q others)
  find_one = as_merge.finds

-- a key that the second list doesn't have goes into the first
module _ (rising others new : List Captured) (key : List ℕ) (x : Option (List ℕ)) (taken : AreTaken rising others) (absent : find key_cmp key others ≡ None) (is : put key_cmp key x rising ≡ new) where
  new_rises : KeysRise new
  new_rises = subst KeysRise is (tested (is_sorted-put key_cmp key_order.total key x rising (computes taken.rise)))

  find_in_new : (q : List ℕ) → find key_cmp q new ≡ cond (same_bytes q key) (Some x) (find key_cmp q rising)
  find_in_new q = ap (find key_cmp q) (sym is) ∙ find-put key_cmp key_order.total q key x rising

  newly : (q : List ℕ) (b : Bool) → same_bytes q key ≡ b → newest (cond b (Some x) (find key_cmp q rising)) (find key_cmp q others) ≡ cond b (Some x) (newest (find key_cmp q rising) (find key_cmp q others))
  newly q true same = ap (newest (Some x)) (ap (λ k. find key_cmp k others) (one_key q key same) ∙ absent)
  newly q false same = refl

  pub put_first : as_one new others ≡ put key_cmp key x (as_one rising others)
  put_first = same_entries key_cmp key_order.total key_order.exact _ _ (computes (one_rises new others new_rises taken.others_rise)) (is_sorted-put key_cmp key_order.total key x (as_one rising others) (computes (one_rises rising others taken.rise taken.others_rise))) (λ q.
      find_one new others new_rises taken.others_rise q ∙ ap (λ f. newest f (find key_cmp q others)) (find_in_new q) ∙ newly q (same_bytes q key) refl
      ∙ ap (cond (same_bytes q key) (Some x)) (sym (find_one rising others taken.rise taken.others_rise q)) ∙ sym (find-put key_cmp key_order.total q key x (as_one rising others)))

  none_of : (q : List ℕ) (b : Bool) → same_bytes q key ≡ b → IsSome (cond b (Some x) (find key_cmp q rising)) → find key_cmp q others ≡ None
  none_of q true same some = ap (λ k. find key_cmp k others) (one_key q key same) ∙ absent
  none_of q false same some = taken.apart q some

  pub still_first : ((q : List ℕ) → IsAbove q new → IsAbove q rising) → AreTaken new others
  still_first less = record {
    rise = new_rises;
    others_rise = taken.others_rise;
    below = λ q far. taken.below q (less q far);
    apart = λ q some. none_of q (same_bytes q key) refl (subst IsSome (find_in_new q) some);
  }

-- a key that is above all goes after the first list
module _ (rising others new : List Captured) (key : List ℕ) (x : Option (List ℕ)) (taken : AreTaken rising others) (above : IsAbove key rising) (is : new ≡ rising ++ (key, x) ∷ []) where
  is_put : put key_cmp key x rising ≡ new
  is_put = put_above key x rising above ∙ sym is

  pub pushed : as_one new others ≡ put key_cmp key x (as_one rising others)
  pushed = put_first rising others new key x taken (taken.below key above) is_put

  pub still_pushed : AreTaken new others
  still_pushed = still_first rising others new key x taken (taken.below key above) is_put (λ q far. above_less q rising ((key, x) ∷ []) (subst (IsAbove q) is far))

-- a key that the first list has gets what is put in its place
above_set : (q : List ℕ) (es : List Captured) (i : ℕ) (e : Captured) (x : Option (List ℕ)) → i < length es → e ≡ get_or es i e → IsAbove q (slice_set es i (e.0, x)) → IsAbove q es
above_set q [] i e x lt at above = tt
above_set q (y ∷ ys) zero e x lt at above = (ap (λ (k : Captured). key_cmp q k.0) (sym at) ∙ above.0, above.1)
above_set q (y ∷ ys) (suc i) e x lt at above = (above.0, above_set q ys i e x (omega (arith, lt)) at above.1)

some_there : (q : Option (Option (List ℕ))) (x : Option (List ℕ)) → q ≡ Some x → IsSome q
some_there q x is = rw is refl

module _ (rising others new : List Captured) (key : List ℕ) (x : Option (List ℕ)) (i : ℕ) (e : Captured) (taken : AreTaken rising others) (place : IsAt rising key i) (at : e ≡ get_or rising i e) (is : new ≡ slice_set rising i (e.0, x)) where
  has_key : IsSome (find key_cmp key rising)
  has_key = some_there _ _ (place.finds e)

  is_set : put key_cmp key x rising ≡ new
  is_set = place.puts e x ∙ ap (λ (old : Captured). slice_set rising i (old.0, x)) (sym at) ∙ sym is

  pub replaced : as_one new others ≡ put key_cmp key x (as_one rising others)
  replaced = put_first rising others new key x taken (taken.apart key has_key) is_set

  pub still_replaced : AreTaken new others
  still_replaced = still_first rising others new key x taken (taken.apart key has_key) is_set (λ q far. above_set q rising i e x place.in_range at (subst (IsAbove q) is far))

nowhere : (o : Option (Option (List ℕ))) → o ≡ None → IsSome o → ⊥
nowhere None is some = cc
nowhere (Some y) is some = cc

-- any other key goes into the second
module _ (rising others new : List Captured) (key : List ℕ) (x : Option (List ℕ)) (taken : AreTaken rising others) (not_above : IsAbove key rising → ⊥) (lacks : find key_cmp key rising ≡ None) (is : new ≡ put key_cmp key x others) where
  others_rise_still : KeysRise new
  others_rise_still = subst KeysRise (sym is) (tested (is_sorted-put key_cmp key_order.total key x others (computes taken.others_rise)))

  find_new : (q : List ℕ) → find key_cmp q new ≡ cond (same_bytes q key) (Some x) (find key_cmp q others)
  find_new q = ap (find key_cmp q) is ∙ find-put key_cmp key_order.total q key x others

  newer_first : (b : Bool) (f o : Option (Option (List ℕ))) → newest f (cond b (Some x) o) ≡ cond b (Some x) (newest f o)
  newer_first true f o = refl
  newer_first false f o = refl

  pub put_in : as_one rising new ≡ put key_cmp key x (as_one rising others)
  put_in = same_entries key_cmp key_order.total key_order.exact _ _ (computes (one_rises rising new taken.rise others_rise_still)) (is_sorted-put key_cmp key_order.total key x (as_one rising others) (computes (one_rises rising others taken.rise taken.others_rise))) (λ q.
      find_one rising new taken.rise others_rise_still q ∙ ap (newest (find key_cmp q rising)) (find_new q) ∙ newer_first (same_bytes q key) (find key_cmp q rising) (find key_cmp q others)
      ∙ ap (cond (same_bytes q key) (Some x)) (sym (find_one rising others taken.rise taken.others_rise q)) ∙ sym (find-put key_cmp key_order.total q key x (as_one rising others)))

  none_above : (q : List ℕ) → IsAbove q rising → (b : Bool) → same_bytes q key ≡ b → cond b (Some x) (find key_cmp q others) ≡ None
  none_above q far true same = absurd (not_above (subst (λ k. IsAbove k rising) (one_key q key same) far))
  none_above q far false same = taken.below q far

  none_beside : (q : List ℕ) → IsSome (find key_cmp q rising) → (b : Bool) → same_bytes q key ≡ b → cond b (Some x) (find key_cmp q others) ≡ None
  none_beside q some true same = absurd (nowhere (find key_cmp q rising) (ap (λ k. find key_cmp k rising) (one_key q key same) ∙ lacks) some)
  none_beside q some false same = taken.apart q some

  pub still_put : AreTaken rising new
  still_put = record {
    rise = taken.rise;
    others_rise = others_rise_still;
    below = λ q far. find_new q ∙ none_above q far (same_bytes q key) refl;
    apart = λ q some. find_new q ∙ none_beside q some (same_bytes q key) refl;
  }

-- as many entries as items
one_each : (all : List (EitherOrBoth Captured Captured)) → length (gathered newest all) ≡ length all
one_each [] = refl
one_each (Left a ∷ all) = ap suc (one_each all)
one_each (Right b ∷ all) = ap suc (one_each all)
one_each (Both a b ∷ all) = ap suc (one_each all)

-- no key is in both lists
abbrev Apart : List Captured → List Captured → Type 0
Apart xs ys = (key : List ℕ) → IsSome (find key_cmp key xs) → find key_cmp key ys ≡ None

found_first : (k : List ℕ) (x : Captured) (xs : List Captured) → k ≡ x.0 → IsSome (find key_cmp k (x ∷ xs))
found_first k x xs is = ap (λ b. is_some (cond b (Some x.1) (find key_cmp k xs))) (ap (λ l. same_bytes l x.0) is ∙ (eq_by_cmp_equiv key_order.total).refl x.0)

found_behind : (b : Bool) (x : Option (List ℕ)) (o : Option (Option (List ℕ))) → IsSome o → IsSome (cond b (Some x) o)
found_behind true x o some = refl
found_behind false x o some = some

none_behind : (b : Bool) (y : Option (List ℕ)) (o : Option (Option (List ℕ))) → cond b (Some y) o ≡ None → o ≡ None
none_behind true y o none = cc
none_behind false y o none = none

abbrev left_of : Captured → EitherOrBoth Captured Captured
left_of e = Left e

abbrev right_of : Captured → EitherOrBoth Captured Captured
right_of e = Right e

-- then each entry of either is an item
apart_at : (x : Captured) (xs : List Captured) → ((ys : List Captured) → Apart xs ys → length (items xs ys) ≡ length xs + length ys) → (ys : List Captured) → Apart (x ∷ xs) ys → length (items (x ∷ xs) ys) ≡ suc (length xs) + length ys
apart_at x xs again [] apart = let same = length-map xs left_of in omega (arith, same)
apart_at x xs again (y ∷ ys) apart = by (key_cmp x.0 y.0) refl (apart_at x xs again ys (λ k some. none_behind (same_bytes k y.0) y.1 (find key_cmp k ys) (apart k some)))
  where
    by : (o : Ordering) → key_cmp x.0 y.0 ≡ o → length (items (x ∷ xs) ys) ≡ suc (length xs) + length ys
        → length (by_ordering o (Left x ∷ items xs (y ∷ ys)) (Both x y ∷ items xs ys) (Right y ∷ items (x ∷ xs) ys)) ≡ suc (length xs) + suc (length ys)
    by Less is second = let first = again (y ∷ ys) (λ k some. apart k (found_behind (same_bytes k x.0) x.1 (find key_cmp k xs) some)) in omega (arith, first)
    by Equal is second = absurd (nowhere (find key_cmp x.0 (y ∷ ys)) (apart x.0 (found_first x.0 x xs refl)) (found_first x.0 y ys (key_order.exact x.0 y.0 is)))
    by Greater is second = omega (arith, second)

apart_items : (xs ys : List Captured) → Apart xs ys → length (items xs ys) ≡ length xs + length ys
apart_items [] ys apart = let same = length-map ys right_of in omega (arith, same)
apart_items (x ∷ xs) ys apart = apart_at x xs (apart_items xs) ys apart

-- as many entries as both lists have
pub taken_len : (rising others : List Captured) (n m : ℕ) → n ≡ length rising → m ≡ length others → AreTaken rising others → n + m ≡ length (as_one rising others)
taken_len rising others n m first second taken =
    let same : length (as_one rising others) ≡ length (items rising others) = ap length (sym (merged_items newest rising others)) ∙ one_each (items rising others) in
    let all = apart_items rising others taken.apart in
    omega (arith, first, second, same, all)

pub refuted : {A : Type 0} (b : Bool) → IsTrue b ↔ A → b ≡ false → A → ⊥
refuted b tests is a = cc (tests.1 a, is)

-- at first nothing is taken
pub first_one : (rising others : List Captured) → rising ≡ [] → others ≡ [] → as_one rising others ≡ []
first_one rising others none nothing = rw (none, nothing) (sym (merged_items newest [] []))

pub first_taken : (rising others : List Captured) → rising ≡ [] → others ≡ [] → AreTaken rising others
first_taken rising others none nothing = record {
  rise = rw none refl;
  others_rise = rw nothing refl;
  below = λ key above. rw nothing refl;
  apart = λ key some. rw nothing refl;
}

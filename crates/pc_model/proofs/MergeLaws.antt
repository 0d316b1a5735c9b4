-- What a merge of two ascending lists has at each key, and its steps.
use Rattle.std.proofs.Common.{◌≡◌, ℕ, Bool, true, false, cond, ◌+◌, ◌<◌, List, [], ◌∷◌, ◌++◌, map, length, get_or, drop, Option, Some, None, refl, sym, ap, subst, ◌∙◌, append_assoc, arith}
use Rattle.std.proofs.lemmas.List.{at_drop_more, at_drop_all, append-nil, length-append}
use Rattle.std.specs.Ordering.{is_lt, ordering_reverse}
use Rattle.std.specs.declared.cmp.Ordering.{Ordering}
use Rattle.std.specs.declared.cmp.Ordering.TheVariants.{Less, Equal, Greater}
use Rattle.std.specs.FinMap.{find, is_sorted}
use Rattle.std.specs.FinMap.Entries.{below_all}
use Rattle.pc_model.specs.Database.{key_cmp, key_order, same_bytes}
use Rattle.pc_model.proofs.JoinLaws.{one_key}
use Rattle.pc_model.proofs.RisingLaws.{both, and_of, none_below, lesser_below, Below, Rise}
use Rattle.itertools.specs.List.{by_ordering}
use Rattle.itertools.specs.declared.either_or_both.EitherOrBoth.{EitherOrBoth}
use Rattle.itertools.specs.declared.either_or_both.EitherOrBoth.TheVariants.{Both, Left, Right}
use Rattle.itertools.proofs.ListLemmas.{merge_join_by-nil}
use Rattle.pc_model.specs.Merges.{with_content, with_item, gathered, merged}
use Rattle.pc_model.proofs.MergeItemLaws.{items}

flipped : (k l : List ℕ) → key_cmp k l ≡ Greater → key_cmp l k ≡ Less
flipped k l is = key_order.total.antisymm l k ∙ ap ordering_reverse is

-- what entries have, if a key is below them
find_apart : {X : Type 0} (key q : List ℕ) (es : List (List ℕ × X)) → Below key es → find key_cmp q es ≡ cond (same_bytes q key) None (find key_cmp q es)
find_apart {X} key q es below = by (same_bytes q key) refl
  where
    by : (b : Bool) → same_bytes q key ≡ b → find key_cmp q es ≡ cond b None (find key_cmp q es)
    by true same = ap (λ k. find key_cmp k es) (one_key q key same) ∙ none_below key es below
    by false same = refl

find_with : {X : Type 0} (key q : List ℕ) (content : Option X) (es : List (List ℕ × X)) → Below key es → find key_cmp q (with_content key content es) ≡ cond (same_bytes q key) content (find key_cmp q es)
find_with key q None es below = find_apart key q es below
find_with key q (Some x) es below = refl

rise_with : {X : Type 0} (key : List ℕ) (content : Option X) (es : List (List ℕ × X)) → Below key es → Rise es → Rise (with_content key content es)
rise_with key None es below rise = rise
rise_with key (Some x) es below rise = and_of (below_all key_cmp key es) (is_sorted key_cmp es) below rise

below_with : {X : Type 0} (k key : List ℕ) (content : Option X) (es : List (List ℕ × X)) → is_lt (key_cmp k key) ≡ true → Below k es → Below k (with_content key content es)
below_with k key None es less below = below
below_with k key (Some x) es less below = and_of (is_lt (key_cmp k key)) (below_all key_cmp k es) less below

module _ {A B C : Type 0} (rule : Option A → Option B → Option C) where
  -- the list has at each key what the rule makes of what both have there
  pub record Merges (a : List (List ℕ × A)) (b : List (List ℕ × B)) (m : List (List ℕ × C)) : Type 0 where
    pub finds : (q : List ℕ) → find key_cmp q m ≡ rule (find key_cmp q a) (find key_cmp q b)
    pub rise : Rise m
    pub below : (k : List ℕ) → Below k a → Below k b → Below k m

  chosen : (t : Bool) (x l : Option A) (y r : Option B) → cond t (rule x y) (rule l r) ≡ rule (cond t x l) (cond t y r)
  chosen true x l y r = refl
  chosen false x l y r = refl

  -- one step: the least key that either list has
  one_step : (key : List ℕ) (x : Option A) (y : Option B) (a ra : List (List ℕ × A)) (b rb : List (List ℕ × B)) (m : List (List ℕ × C)) →
      ((q : List ℕ) → find key_cmp q a ≡ cond (same_bytes q key) x (find key_cmp q ra)) → ((q : List ℕ) → find key_cmp q b ≡ cond (same_bytes q key) y (find key_cmp q rb)) →
      Below key ra → Below key rb → ((k : List ℕ) → Below k a → Below k b → record { less : is_lt (key_cmp k key) ≡ true; first : Below k ra; second : Below k rb }) →
      Merges ra rb m → Merges a b (with_content key (rule x y) m)
  one_step key x y a ra b rb m finds_a finds_b below_a below_b heads rest = record {
    finds = λ q. find_with key q (rule x y) m (rest.below key below_a below_b)
        ∙ ap (cond (same_bytes q key) (rule x y)) (rest.finds q)
        ∙ chosen (same_bytes q key) x (find key_cmp q ra) y (find key_cmp q rb)
        ∙ ap (λ l. rule l (cond (same_bytes q key) y (find key_cmp q rb))) (sym (finds_a q)) ∙ ap (rule (find key_cmp q a)) (sym (finds_b q));
    rise = rise_with key (rule x y) m (rest.below key below_a below_b) rest.rise;
    below = λ k in_a in_b. let h = heads k in_a in_b in below_with k key (rule x y) m h.less (rest.below k h.first h.second);
  }

  module _ (nothing : rule None None ≡ None) where
    second_merges : (bs : List (List ℕ × B)) → Rise bs → Merges [] bs (gathered rule (items {X = A} [] bs))
    second_merges [] rise = record { finds = λ q. sym nothing; rise = refl; below = λ k in_a in_b. refl }
    second_merges (b ∷ bs) rise =
        let parts = both (below_all key_cmp b.0 bs) (is_sorted key_cmp bs) rise in
        one_step b.0 None (Some b.1) [] [] (b ∷ bs) bs (gathered rule (items {X = A} [] bs)) (λ q. find_apart b.0 q [] refl) (λ q. refl) refl parts.0
        (λ k in_a in_b. let h = both (is_lt (key_cmp k b.0)) (below_all key_cmp k bs) in_b in record { less = h.0; first = refl; second = h.1 })
        (second_merges bs parts.1)

    merges_with : (a : List ℕ × A) (rest : List (List ℕ × A)) (again : (bs : List (List ℕ × B)) → Rise rest → Rise bs → Merges rest bs (gathered rule (items rest bs))) (bs : List (List ℕ × B)) →
        Rise (a ∷ rest) → Rise bs → Merges (a ∷ rest) bs (gathered rule (items (a ∷ rest) bs))
    merges_with a rest again [] rise_a rise_b =
        let parts = both (below_all key_cmp a.0 rest) (is_sorted key_cmp rest) rise_a in
        one_step a.0 (Some a.1) None (a ∷ rest) rest [] [] (gathered rule (map (λ x. Left x) rest)) (λ q. refl) (λ q. find_apart a.0 q [] refl) parts.0 refl
        (λ k in_a in_b. let h = both (is_lt (key_cmp k a.0)) (below_all key_cmp k rest) in_a in record { less = h.0; first = h.1; second = refl })
        (subst (λ l. Merges rest [] (gathered rule l)) (merge_join_by-nil (λ x y. key_cmp x.0 y.0) rest) (again [] parts.1 refl))
    merges_with a rest again (b ∷ bs) rise_a rise_b =
        by (λ rise. merges_with a rest again bs rise_a rise) (key_cmp a.0 b.0) refl (both (below_all key_cmp a.0 rest) (is_sorted key_cmp rest) rise_a) (both (below_all key_cmp b.0 bs) (is_sorted key_cmp bs) rise_b)
      where
        by : (Rise bs → Merges (a ∷ rest) bs (gathered rule (items (a ∷ rest) bs))) → (o : Ordering) → key_cmp a.0 b.0 ≡ o → (Below a.0 rest × Rise rest) → (Below b.0 bs × Rise bs) →
            Merges (a ∷ rest) (b ∷ bs) (gathered rule (by_ordering o (Left a ∷ items rest (b ∷ bs)) (Both a b ∷ items rest bs) (Right b ∷ items (a ∷ rest) bs)))
        by later Less is pa pb =
            let under : Below a.0 (b ∷ bs) = and_of (is_lt (key_cmp a.0 b.0)) (below_all key_cmp a.0 bs) (ap is_lt is) (lesser_below a.0 b.0 bs is pb.0) in
            one_step a.0 (Some a.1) None (a ∷ rest) rest (b ∷ bs) (b ∷ bs) (gathered rule (items rest (b ∷ bs))) (λ q. refl) (λ q. find_apart a.0 q (b ∷ bs) under) pa.0 under
            (λ k in_a in_b. let h = both (is_lt (key_cmp k a.0)) (below_all key_cmp k rest) in_a in record { less = h.0; first = h.1; second = in_b })
            (again (b ∷ bs) pa.1 rise_b)
        by later Greater is pa pb =
            let turned = flipped a.0 b.0 is in
            let under : Below b.0 (a ∷ rest) = and_of (is_lt (key_cmp b.0 a.0)) (below_all key_cmp b.0 rest) (ap is_lt turned) (lesser_below b.0 a.0 rest turned pa.0) in
            one_step b.0 None (Some b.1) (a ∷ rest) (a ∷ rest) (b ∷ bs) bs (gathered rule (items (a ∷ rest) bs)) (λ q. find_apart b.0 q (a ∷ rest) under) (λ q. refl) under pb.0
            (λ k in_a in_b. let h = both (is_lt (key_cmp k b.0)) (below_all key_cmp k bs) in_b in record { less = h.0; first = in_a; second = h.1 })
            (later pb.1)
        by later Equal is pa pb =
            let keys : a.0 ≡ b.0 = key_order.exact a.0 b.0 is in
            one_step a.0 (Some a.1) (Some b.1) (a ∷ rest) rest (b ∷ bs) bs (gathered rule (items rest bs)) (λ q. refl) (λ q. ap (λ k. cond (same_bytes q k) (Some b.1) (find key_cmp q bs)) (sym keys))
            pa.0 (subst (λ k. Below k bs) (sym keys) pb.0)
            (λ k in_a in_b. let h = both (is_lt (key_cmp k a.0)) (below_all key_cmp k rest) in_a in
            record { less = h.0; first = h.1; second = (both (is_lt (key_cmp k b.0)) (below_all key_cmp k bs) in_b).1 })
            (again bs pa.1 pb.1)

    merges_items : (a : List (List ℕ × A)) (b : List (List ℕ × B)) → Rise a → Rise b → Merges a b (gathered rule (items a b))
    merges_items [] b rise_a rise_b = second_merges b rise_b
    merges_items (a ∷ rest) b rise_a rise_b = merges_with a rest (λ bs ra rb. merges_items rest bs ra rb) b rise_a rise_b

    -- a merge of ascending lists has at each key what the rule makes of what both have there
    pub merges : (a : List (List ℕ × A)) (b : List (List ℕ × B)) → Rise a → Rise b → Merges a b (merged rule a b)
    unfolding merged
    merges a b rise_a rise_b = merges_items a b rise_a rise_b

  -- the steps of a merge, item by item
  pub merged_items : (a : List (List ℕ × A)) (b : List (List ℕ × B)) → gathered rule (items a b) ≡ merged rule a b
  unfolding merged
  merged_items a b = refl

  in_front : (key : List ℕ) (content : Option C) (es : List (List ℕ × C)) → with_content key content [] ++ es ≡ with_content key content es
  in_front key None es = refl
  in_front key (Some c) es = refl

  item_in_front : (item : EitherOrBoth (List ℕ × A) (List ℕ × B)) (es : List (List ℕ × C)) → with_item rule item [] ++ es ≡ with_item rule item es
  item_in_front (Left a) es = in_front a.0 (rule (Some a.1) None) es
  item_in_front (Right b) es = in_front b.0 (rule None (Some b.1)) es
  item_in_front (Both a b) es = in_front a.0 (rule (Some a.1) (Some b.1)) es

  -- a loop over the items: what it has gathered, before what the items to come make
  module _ (all : List (EitherOrBoth (List ℕ × A) (List ℕ × B))) where
    -- one more item
    pub one_more : (n m : ℕ) (item : EitherOrBoth (List ℕ × A) (List ℕ × B)) (part : List (List ℕ × C)) → (n < length all) × (item ≡ get_or all n item) → m ≡ n + 1 → with_item rule item [] ≡ part → gathered rule (drop n all) ≡ part ++ gathered rule (drop m all)
    one_more n m item part at next made = at_drop_more (gathered rule) all n item at.0 ∙ ap (λ i. with_item rule i (gathered rule (drop (n + 1) all))) (sym at.1) ∙ sym (item_in_front item (gathered rule (drop (n + 1) all)))
        ∙ ap (λ es. es ++ gathered rule (drop (n + 1) all)) made ∙ ap (λ k. part ++ gathered rule (drop k all)) (sym next)

    pub goes_on : (n m : ℕ) (item : EitherOrBoth (List ℕ × A) (List ℕ × B)) (part out new total : List (List ℕ × C)) → (n < length all) × (item ≡ get_or all n item) → m ≡ n + 1 → with_item rule item [] ≡ part
        → out ++ gathered rule (drop n all) ≡ total → new ≡ out ++ part → new ++ gathered rule (drop m all) ≡ total
    goes_on n m item part out new total at next made so_far put = ap (λ es. es ++ gathered rule (drop m all)) put ∙ append_assoc out part (gathered rule (drop m all)) ∙ ap (λ es. out ++ es) (sym (one_more n m item part at next made)) ∙ so_far

    pub counts_on : (n m : ℕ) (item : EitherOrBoth (List ℕ × A) (List ℕ × B)) (part : List (List ℕ × C)) (len total : ℕ) → (n < length all) × (item ≡ get_or all n item) → m ≡ n + 1 → with_item rule item [] ≡ part
        → len + length (gathered rule (drop n all)) ≡ total → len + length part + length (gathered rule (drop m all)) ≡ total
    counts_on n m item part len total at next made so_far =
        let more = ap length (one_more n m item part at next made) ∙ length-append part (gathered rule (drop m all)) in
        omega (arith, more, so_far)

    -- no item is left
    pub none_left : (n : ℕ) → n ≡ length all → gathered rule (drop n all) ≡ []
    none_left n end = at_drop_all (gathered rule) all n (omega (arith, end))

    -- and all is gathered
    pub gathered_all : (n : ℕ) (out total : List (List ℕ × C)) → n ≡ length all → out ++ gathered rule (drop n all) ≡ total → out ≡ total
    gathered_all n out total end so_far = sym (append-nil out) ∙ ap (λ es. out ++ es) (sym (none_left n end)) ∙ so_far

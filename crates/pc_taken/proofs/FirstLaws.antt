-- The first entry of two lists, of the second of which the first is held, and what comes after it.
use Rattle.std.proofs.Common.{◌≡◌, ℕ, Bool, true, false, List, [], ◌∷◌, Option, Some, None, length, refl, sym, ap, ◌∙◌, arith}
use Rattle.std.specs.declared.cmp.Ordering.{Ordering}
use Rattle.std.specs.declared.cmp.Ordering.TheVariants.{Less, Equal, Greater}
use Rattle.itertools.specs.List.{by_ordering}
use Rattle.itertools.specs.declared.either_or_both.EitherOrBoth.TheVariants.{Both, Left, Right}
use Rattle.itertools.proofs.ListLemmas.{merge_join_by-nil}
use Rattle.pc_model.specs.Database.{key_cmp, key_order}
use Rattle.pc_model.specs.Merges.{gathered}
use Rattle.pc_model.proofs.MergeLaws.{merged_items}
use Rattle.pc_model.proofs.MergeItemLaws.{items}
use Rattle.pc_taken.specs.Takings.{Captured, newest, as_one}
use Rattle.pc_taken.specs.Firsts.{Lent, with_held, IsFirst}

-- if one list is done the other goes on
rising_alone : (x : Captured) (xs : List Captured) → as_one (x ∷ xs) [] ≡ x ∷ as_one xs []
rising_alone x xs = sym (merged_items newest (x ∷ xs) []) ∙ ap (λ l. x ∷ gathered newest l) (sym (merge_join_by-nil (λ (x y : Captured). key_cmp x.0 y.0) xs)) ∙ ap (λ l. x ∷ l) (merged_items newest xs [])

others_alone : (y : Captured) (ys : List Captured) → as_one [] (y ∷ ys) ≡ y ∷ as_one [] ys
others_alone y ys = sym (merged_items newest [] (y ∷ ys)) ∙ ap (λ l. y ∷ l) (merged_items newest [] ys)

-- if both go on the lesser one comes first, and the second list's of two of one key
module _ (x y : Captured) (xs ys : List Captured) where
  by_order : (o : Ordering) → key_cmp x.0 y.0 ≡ o → as_one (x ∷ xs) (y ∷ ys) ≡ gathered newest (by_ordering o (Left x ∷ items xs (y ∷ ys)) (Both x y ∷ items xs ys) (Right y ∷ items (x ∷ xs) ys))
  by_order o is = sym (merged_items newest (x ∷ xs) (y ∷ ys)) ∙ ap (λ o. gathered newest (by_ordering o (Left x ∷ items xs (y ∷ ys)) (Both x y ∷ items xs ys) (Right y ∷ items (x ∷ xs) ys))) is

  lesser : key_cmp x.0 y.0 ≡ Less → as_one (x ∷ xs) (y ∷ ys) ≡ x ∷ as_one xs (y ∷ ys)
  lesser is = by_order Less is ∙ ap (λ l. x ∷ l) (merged_items newest xs (y ∷ ys))

  equal : key_cmp x.0 y.0 ≡ Equal → as_one (x ∷ xs) (y ∷ ys) ≡ y ∷ as_one xs ys
  equal is = by_order Equal is ∙ ap (λ k. (k, y.1) ∷ gathered newest (items xs ys)) (key_order.exact x.0 y.0 is) ∙ ap (λ l. y ∷ l) (merged_items newest xs ys)

  greater : key_cmp x.0 y.0 ≡ Greater → as_one (x ∷ xs) (y ∷ ys) ≡ y ∷ as_one (x ∷ xs) ys
  greater is = by_order Greater is ∙ ap (λ l. y ∷ l) (merged_items newest (x ∷ xs) ys)

nothing : (es : List Captured) → length es ≡ 0 → es ≡ []
nothing [] zero = refl
nothing (e ∷ es) zero = absurd (omega (arith, zero))

module _ (rising : List Captured) (other : Option Lent) (key : List ℕ) (content : Option (List ℕ)) (left : List Captured) (is_of_others : Bool) where
  -- the first list's comes first
  module _ (one : Captured) (rest : List Captured) (at : rising ≡ one ∷ rest) (the_key : key ≡ one.0) (the_content : content ≡ one.1) (behind : left ≡ rest) (not : is_of_others ≡ false) where
    pub rising_first : other ≡ None → IsFirst rising other (key, content) left is_of_others
    rising_first none = rw (at, the_key, the_content, behind, not, none) (λ others. rising_alone one rest)

    pub lesser_first : (held : Lent) → other ≡ Some held → key_cmp one.0 held.0.now ≡ Less → IsFirst rising other (key, content) left is_of_others
    lesser_first held some less = rw (at, the_key, the_content, behind, not, some) (λ others. lesser one (held.0.now, held.1.now) rest others less)

  -- the second list's comes first
  module _ (held : Lent) (some : other ≡ Some held) (the_key : key ≡ held.0.now) (the_content : content ≡ held.1.now) (is : is_of_others ≡ true) where
    pub others_first : length rising ≡ 0 → left ≡ rising → IsFirst rising other (key, content) left is_of_others
    others_first zero behind = rw (behind, nothing rising zero, some, the_key, the_content, is) (λ others. others_alone (held.0.now, held.1.now) others)

    pub equal_first : (one : Captured) (rest : List Captured) → rising ≡ one ∷ rest → left ≡ rest → key_cmp one.0 held.0.now ≡ Equal → IsFirst rising other (key, content) left is_of_others
    equal_first one rest at behind same = rw (at, behind, some, the_key, the_content, is) (λ others. equal one (held.0.now, held.1.now) rest others same)

    pub greater_first : (one : Captured) (rest : List Captured) → rising ≡ one ∷ rest → left ≡ rising → key_cmp one.0 held.0.now ≡ Greater → IsFirst rising other (key, content) left is_of_others
    greater_first one rest at behind above = rw (behind, at, some, the_key, the_content, is) (λ others. greater one (held.0.now, held.1.now) rest others above)

-- and if neither list goes on nothing is to come
pub none_first : (rising others : List Captured) (other : Option Lent) → rising ≡ [] → other ≡ None → as_one rising (with_held other others) ≡ []
none_first rising others other none nothing = rw (none, nothing) (sym (merged_items newest [] []))

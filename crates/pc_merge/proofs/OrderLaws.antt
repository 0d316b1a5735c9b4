-- Entries in the order of their keys, and heads in place of keys.
use Rattle.std.proofs.Common.{◌≡◌, ◌≢◌, ℕ, ◌^◌, ◌<◌, nat_lt, Bool, true, false, List, Option, Some, None, refl, sym, ap, ◌∙◌, subst, arith}
use Rattle.std.proofs.Common.{Ordering, Less, Equal, Greater}
use Rattle.std.specs.Prelude.{MatchBool}
use Rattle.std.specs.Ordering.{nat_cmp, is_le, is_gt, is_eq, ordering_reverse}
use Rattle.std.specs.Cmp.{nat_cmp_is, tied_itself, upto}
use Rattle.std.proofs.lemmas.Bool.{ltb-true, ltb-false}
use Rattle.std.proofs.lemmas.Cmp.{alike_right, tied_back}
use Rattle.pc_types.specs.declared.Triple.{Triple}
use Rattle.pc_types.specs.Heads.{head}
use Rattle.pc_types.proofs.HeadLaws.{by_heads}
use Rattle.pc_model.specs.Database.{key_cmp, key_order, same_bytes}
use Rattle.pc_model.specs.Files.{same_content}
use Rattle.pc_model.proofs.JoinLaws.{one_key}
use Rattle.pc_merge.specs.Drawing.{has_key}
use Rattle.pc_merge.specs.Merging.{IsBelow}
use Rattle.pc_merge.specs.Tournaments.{first_entry_at, IsLeast, IsNoLater}
use Rattle.pc_merge.specs.Trees.{IsHeadAt}

-- ---- the order

not_greater : (o : Ordering) → o ≢ Greater → is_gt o ≡ false
not_greater Less h = refl
not_greater Equal h = refl
not_greater Greater h = absurd (h refl)

no_greater : (o : Ordering) → is_gt o ≡ false → o ≢ Greater
no_greater Less e h = cc
no_greater Equal e h = cc
no_greater Greater e h = cc

pub no_later_itself : (e : Option Triple) → IsNoLater e e
no_later_itself None = tt
no_later_itself (Some e) = λ h. let bad = sym (tied_itself key_order.total e.key) ∙ h in cc

pub no_later_trans : (e f g : Option Triple) → IsNoLater e f → IsNoLater f g → IsNoLater e g
no_later_trans e f None p q = tt
no_later_trans e None (Some g) p q = absurd q
no_later_trans None (Some f) (Some g) p q = absurd p
no_later_trans (Some e) (Some f) (Some g) p q =
    no_greater (key_cmp e.key g.key) (upto key_order.total e.key f.key g.key (not_greater (key_cmp e.key f.key) p) (not_greater (key_cmp f.key g.key) q))

-- ---- the tests

less_not : (o : Ordering) → o ≡ Less → o ≢ Greater
less_not o is h = cc

turned : (o p : Ordering) → p ≡ ordering_reverse o → o ≡ Greater → p ≢ Greater
turned Less p e h q = cc
turned Equal p e h q = cc
turned Greater p e h q = cc

pub by_keys : (k l : List ℕ) (r : Bool) → r ≡ is_le (key_cmp k l) → MatchBool r (key_cmp k l ≢ Greater) (key_cmp l k ≢ Greater)
by_keys k l r is = by r (key_cmp k l) refl is
  where
    by : (r : Bool) (o : Ordering) → key_cmp k l ≡ o → r ≡ is_le o → MatchBool r (key_cmp k l ≢ Greater) (key_cmp l k ≢ Greater)
    by true Less e h = λ bad. cc
    by true Equal e h = λ bad. cc
    by true Greater e h = cc
    by false Less e h = cc
    by false Equal e h = cc
    by false Greater e h = turned (key_cmp k l) (key_cmp l k) (key_order.total.antisymm l k) e

-- a lesser head is that of a lesser key
lesser_head : (e f : Triple) (h k : ℕ) → IsHeadAt (Some e) h → IsHeadAt (Some f) k → h < k → key_cmp e.key f.key ≢ Greater
lesser_head e f h k first second less =
    let is : nat_cmp (head e.key) (head f.key) ≡ Less = sym (nat_cmp_is (head e.key) (head f.key) Less (let p = first.0 in let q = second.0 in omega arith)) in
    less_not (key_cmp e.key f.key) (by_heads e.key f.key first.1 second.1 (λ same. let bad = sym is ∙ same in cc) ∙ is)

pub by_numbers : (e f : Option Triple) (h k : ℕ) → IsHeadAt e h → IsHeadAt f k → h < 2 ^ 64 → k < 2 ^ 64 → h ≢ k → MatchBool (nat_lt h k) (IsNoLater e f) (IsNoLater f e)
by_numbers e f h k first second p q apart = by (nat_lt h k) refl e f first second
  where
    by : (t : Bool) → nat_lt h k ≡ t → (e f : Option Triple) → IsHeadAt e h → IsHeadAt f k → MatchBool t (IsNoLater e f) (IsNoLater f e)
    by true is e None first second = tt
    by true is None (Some f) first second = let less = ltb-true h k is in absurd (omega (arith, less, first, q))
    by true is (Some e) (Some f) first second = lesser_head e f h k first second (ltb-true h k is)
    by false is None f first second = tt
    by false is (Some e) None first second = let no = ltb-false h k is in absurd (apart (omega (arith, no, second, p)))
    by false is (Some e) (Some f) first second = let no = ltb-false h k is in lesser_head f e k h second first (omega (arith, no, apart))

-- ---- the least key

less_then : (k l m : List ℕ) → key_cmp k l ≡ Less → key_cmp l m ≢ Greater → key_cmp k m ≡ Less
less_then k l m less upto = by (key_cmp l m) refl
  where
    by : (o : Ordering) → key_cmp l m ≡ o → key_cmp k m ≡ Less
    by Less e = key_order.total.trans k l m less e
    by Equal e = sym (alike_right key_order.total l m k e) ∙ less
    by Greater e = absurd (upto e)

other_is_less : (k l : List ℕ) → key_cmp k l ≢ Greater → same_bytes l k ≡ false → key_cmp k l ≡ Less
other_is_less k l upto other = by (key_cmp k l) refl
  where
    by : (o : Ordering) → key_cmp k l ≡ o → key_cmp k l ≡ Less
    by Less e = e
    by Equal e = let same = ap is_eq (tied_back key_order.total k l e) in let bad = sym other ∙ same in cc
    by Greater e = absurd (upto e)

-- if the least is of another key than a lesser entry, all are of greater ones
pub least_is_above : (firsts : List (Option Triple)) (place : ℕ) (entry : Triple) → IsLeast firsts place → ((other : ℕ) → IsNoLater (Some entry) (first_entry_at firsts other)) → has_key entry.key (first_entry_at firsts place) ≡ false → (other : ℕ) → IsBelow entry.key (first_entry_at firsts other)
least_is_above firsts place entry least lesser test other = by (first_entry_at firsts place) least.some (lesser place) test (first_entry_at firsts other) (least.least other)
  where
    by : (first : Option Triple) → first ≢ None → IsNoLater (Some entry) first → has_key entry.key first ≡ false → (second : Option Triple) → IsNoLater first second → IsBelow entry.key second
    by None some upto test second next = absurd (some refl)
    by (Some first) some upto test None next = tt
    by (Some first) some upto test (Some second) next = less_then entry.key first.key second.key (other_is_less entry.key first.key upto test) next

-- an entry of the key
pub of_key : (key : List ℕ) (first : Option Triple) (entry : Triple) → first ≡ Some entry → has_key key first ≡ true → entry.key ≡ key
of_key key first entry there test = one_key entry.key key (subst (λ (f : Option Triple). has_key key f ≡ true) there test)

-- keys of different heads are different
pub heads_apart : (k l : List ℕ) (h g : ℕ) → h ≡ head k → g ≡ head l → (h ≡ g → ⊥) → same_bytes k l ≡ false
heads_apart k l h g first second apart = by (same_bytes k l) refl
  where
    by : (t : Bool) → same_bytes k l ≡ t → t ≡ false
    by true is = absurd (apart (first ∙ ap head (one_key k l is) ∙ sym second))
    by false is = refl

-- ---- contents

pub same_content_is : (c d : Option (List ℕ)) → same_content c d ≡ true → c ≡ d
same_content_is None None e = refl
same_content_is None (Some w) e = cc
same_content_is (Some v) None e = cc
same_content_is (Some v) (Some w) e = ap (λ (k : List ℕ). Some k) (one_key v w e)

same_content_itself : (c : Option (List ℕ)) → same_content c c ≡ true
same_content_itself None = refl
same_content_itself (Some v) = ap is_eq (tied_itself key_order.total v)

pub contents_differ : (c d : Option (List ℕ)) → same_content c d ≡ false → c ≡ d → ⊥
contents_differ c d test same = let bad = sym test ∙ (λ i. same_content c (sym same i)) ∙ same_content_itself c in cc

-- two of one key, point and content are one
pub same_entry : (one other : Triple) → other.key ≡ one.key → one.point ≡ other.point → same_content one.content other.content ≡ true → other ≡ one
same_entry one other key point content = let c = same_content_is one.content other.content content in λ i. record { key = key i; point = sym point i; content = sym c i }

-- The number of keys that a set or a map has, by those of another.
use Rattle.std.proofs.Common.{◌≡◌, ℕ, ◌+◌, ◌≤◌, ◌||◌, Bool, true, false, cond, List, [], ◌∷◌, length, map, is_some, refl, sym, ap, ◌∙◌, arith}
use Rattle.std.specs.FinMap.Entries.{is_some-find}
use Rattle.pc_model.specs.Database.{key_cmp, key_order, same_bytes}
use Rattle.pc_model.specs.Maps as map_of
use Rattle.pc_model.specs.Maps.{Map, get, len}
use Rattle.pc_model.specs.Points.{is_among}
use Rattle.pc_model.specs.Sets as set
use Rattle.pc_model.specs.Sets.{Set}
use Rattle.pc_model.proofs.CountLaws.{length_of_set}
use Rattle.pc_model.proofs.MapLaws.{get-entries, get-insert}
use Rattle.pc_model.proofs.PairMapLaws.{tested}
use Rattle.pc_model.proofs.SetLaws.{contains-from_list, len-insert, same_set, some_or}

-- a key more or none
pub one_insert : (s : Set key_order) (k : List ℕ) → (set.len s ≤ set.len (set.insert s k)) × (set.len (set.insert s k) ≤ set.len s + 1)
one_insert s k = by (set.contains s k) (len-insert s k)
  where
    by : (b : Bool) → set.len (set.insert s k) ≡ cond b (set.len s) (set.len s + 1) → (set.len s ≤ set.len (set.insert s k)) × (set.len (set.insert s k) ≤ set.len s + 1)
    by true is = (omega (arith, is), omega (arith, is))
    by false is = (omega (arith, is), omega (arith, is))

with_all : (s : Set key_order) (ks : List (List ℕ)) → (set.len s ≤ set.len (set.insert_all s ks)) × (set.len (set.insert_all s ks) ≤ set.len s + length ks)
with_all s [] = (omega arith, omega arith)
with_all s (k ∷ ks) = let one = one_insert (set.insert_all s ks) k in let rest = with_all s ks in (omega (arith, one.0, rest.0), omega (arith, one.1, rest.1))

has_all : (s : Set key_order) (ks : List (List ℕ)) (q : List ℕ) → set.contains (set.insert_all s ks) q ≡ (is_among ks q || set.contains s q)
has_all s [] q = refl
has_all s (k ∷ ks) q = ap is_some (get-insert (set.insert_all s ks) k tt q) ∙ some_or (same_bytes q k) _ ∙ ap (λ b. same_bytes q k || b) (has_all s ks q) ∙ turn (same_bytes q k) (is_among ks q) (set.contains s q)
  where
    turn : (a b c : Bool) → (a || (b || c)) ≡ ((a || b) || c)
    turn true b c = refl
    turn false b c = refl

own_keys : (s : Set key_order) (q : List ℕ) → is_among (set.items s) q ≡ set.contains s q
own_keys s q = sym (is_some-find key_cmp q s.entries) ∙ ap is_some (sym (get-entries s q))

-- a set whose keys another one has is no larger
pub len_below : (s t : Set key_order) → ((q : List ℕ) → set.contains s q ≡ true → set.contains t q ≡ true) → set.len s ≤ set.len t
len_below s t sub = let more = with_all s (set.items t) in let is = ap set.len same in omega (arith, more.0, is)
  where
    either : (a b : Bool) → (b ≡ true → a ≡ true) → (a || b) ≡ a
    either true b h = refl
    either false true h = sym (h refl)
    either false false h = refl

    same : set.insert_all s (set.items t) ≡ t
    same = same_set _ _ (λ q. has_all s (set.items t) q ∙ ap (λ b. b || set.contains s q) (own_keys t q) ∙ either (set.contains t q) (set.contains s q) (sub q))

empty_len : set.len (set.empty {o = key_order}) ≡ 0
unfolding map_of.empty
empty_len = refl

-- a set of these keys is no larger than their list
pub len_list : (ks : List (List ℕ)) → set.len (set.from_list {o = key_order} ks) ≤ length ks
len_list ks = let all = with_all set.empty ks in let none = empty_len in omega (arith, all.1, none)

module _ {X : Type 0} (m : Map key_order X) where
  -- the keys of a map
  pub keys_of : Set key_order
  keys_of = set.from_list (map (λ e. e.0) m.entries)

  pub has_keys : (q : List ℕ) → set.contains keys_of q ≡ is_some (get m q)
  unfolding keys_of
  has_keys q = contains-from_list key_order (map (λ e. e.0) m.entries) q ∙ sym (is_some-find key_cmp q m.entries) ∙ ap is_some (sym (get-entries m q))

  -- are as many as it has
  pub keys_len : len m ≡ set.len keys_of
  keys_len = length_of_set m.entries keys_of (tested m.rises) (λ q. has_keys q ∙ ap is_some (get-entries m q))

  -- a map whose keys a set has is no larger
  pub map_below : (t : Set key_order) → ((q : List ℕ) → is_some (get m q) ≡ true → set.contains t q ≡ true) → len m ≤ set.len t
  map_below t sub = let less = len_below keys_of t (λ q there. sub q (sym (has_keys q) ∙ there)) in let is = keys_len in omega (arith, less, is)

  -- nor one whose keys are among these
  pub map_within : (ks : List (List ℕ)) → ((q : List ℕ) → is_some (get m q) ≡ true → is_among ks q ≡ true) → len m ≤ length ks
  map_within ks sub = let less = map_below (set.from_list ks) (λ q there. contains-from_list key_order ks q ∙ sub q there) in let few = len_list ks in omega (arith, less, few)

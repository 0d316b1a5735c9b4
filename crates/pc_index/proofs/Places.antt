-- The chains of an index, by place.
use Rattle.std.proofs.Common.{◌≡◌, ◌≢◌, ℕ, ◌==◌, ◌<◌, ◌-◌, inl, inr, List, [], ◌∷◌, length, get_or, set, Option, Some, None, option_map, is_some, true, cond, bit_and, refl, sym, ◌∙◌, ap, subst, length-set}
use Rattle.std.proofs.lemmas.Bool.{eq-eqb, ne_eqb, cases_eq, cond-true, cond-false, false≢true}
use Rattle.std.proofs.lemmas.List.{get_or-set_same, get_or-set_other, get_or_read}
use Rattle.pc_chain.specs.declared.stack.Stack.{Stack}
use Rattle.pc_chain.specs.Chains.{Avoids, AreDisjoint, AllHave}
use Rattle.pc_chain.proofs.ChainLaws.{have_still, have_both, all_avoids}
use Rattle.pc_chain.specs.Slots.{Slots, at, IsTaken}
use Rattle.pc_index.specs.Hashes.{key_hash}
use Rattle.pc_index.specs.Indexes.{IndexView, bucket_of, chain_at, IsIndex}
use Rattle.pc_index.specs.Keys.{key_at}

-- what each place has, with another at one place
abbrev pub changed : {X : Type 0} → (ℕ → X) → ℕ → X → ℕ → X
changed f p x b = cond (b == p) x (f b)

pub changed_here : {X : Type 0} (f : ℕ → X) (p : ℕ) (x : X) (b : ℕ) → b ≡ p → changed f p x b ≡ x
changed_here f p x b e = cond-true (b == p) x (f b) (eq-eqb b p e)

pub changed_other : {X : Type 0} (f : ℕ → X) (p : ℕ) (x : X) (b : ℕ) → b ≢ p → changed f p x b ≡ f b
changed_other f p x b n = cond-false (b == p) x (f b) (ne_eqb b p n)

-- the table with another chain at one place
abbrev pub with_chain : IndexView → ℕ → Stack ℕ → IndexView
with_chain table p chain = record table { chains = set table.chains p chain }

pub place_same : (table : IndexView) (p : ℕ) (chain : Stack ℕ) (key : List ℕ) → bucket_of (with_chain table p chain) key ≡ bucket_of table key
place_same table p chain key = ap (λ (n : ℕ). bit_and (key_hash table.seed key) (n - 1)) (length-set table.chains p chain)

pub table_written : (inside table : IndexView) (n p : ℕ) (chain : Stack ℕ) → inside ≡ table → n ≡ p → with_chain inside n chain ≡ with_chain table p chain
table_written inside table n p chain e f = ap (λ (t : IndexView). with_chain t n chain) e ∙ ap (λ (q : ℕ). with_chain table q chain) f

-- the chain that was read at the place of a key
pub chain_read : (inside table : IndexView) (n p : ℕ) (chain : Stack ℕ) → inside ≡ table → n ≡ p → n < length table.chains → chain ≡ get_or inside.chains n chain → (p < length table.chains) × (chain ≡ chain_at table p)
chain_read inside table n p chain e f w r = (
  subst (λ (q : ℕ). q < length table.chains) f w,
  get_or_read inside.chains n chain (subst (λ (t : IndexView). n < length t.chains) (sym e) w) r (record { first = None }) ∙ (ap (λ (t : IndexView). chain_at t n) e ∙ ap (chain_at table) f),
)

-- what holds of the chain and the list of each place, if it holds of the new ones of one place and of the old ones of all others
pub each_place : (P : Stack ℕ → List ℕ → Type 0) (table : IndexView) (ids : ℕ → List ℕ) (p : ℕ) (chain : Stack ℕ) (list : List ℕ) → p < length table.chains → P chain list →
    ((b : ℕ) → b < length table.chains → b ≢ p → P (chain_at table b) (ids b)) → (b : ℕ) → b < length table.chains → P (chain_at (with_chain table p chain) b) (changed ids p list b)
each_place P table ids p chain list v h o b w = elim (cases_eq b p) [
  | inl e ↦
      let c : chain_at (with_chain table p chain) b ≡ chain = ap (chain_at (with_chain table p chain)) e ∙ get_or-set_same table.chains p chain (record { first = None }) v in
      rw (c, changed_here ids p list b e) h
  | inr n ↦
      let c : chain_at (with_chain table p chain) b ≡ chain_at table b = get_or-set_other table.chains p b chain (record { first = None }) n in
      rw (c, changed_other ids p list b n) (o b w n)
]

-- and of the list alone
pub each_list : (P : ℕ → List ℕ → Type 0) (ids : ℕ → List ℕ) (p : ℕ) (list : List ℕ) → P p list → ((b : ℕ) → P b (ids b)) → (b : ℕ) → P b (changed ids p list b)
each_list P ids p list h o b = elim (cases_eq b p) [
  | inl e ↦ rw (changed_here ids p list b e) (subst (λ (q : ℕ). P q list) (sym e) h)
  | inr n ↦ rw (changed_other ids p list b n) (o b)
]

apart_from_all : (xs ys : List ℕ) → AllHave (λ y. Avoids y xs) ys → AreDisjoint xs ys
apart_from_all xs [] h = tt
apart_from_all xs (y ∷ ys) h = (h.0, apart_from_all xs ys h.1)

pub one_key : (a b : List ℕ) (o : Option (List ℕ)) → o ≡ Some a → o ≡ Some b → a ≡ b
one_key a b o e f = cc

module _ {T : Type 0} (key_of : T → List ℕ) where
  -- the slot's key, if it has one, has the place
  abbrev pub IsPlaced : List (Option T) → IndexView → ℕ → ℕ → Type 0
  IsPlaced items table b id = (key : List ℕ) → key_at key_of items id ≡ Some key → bucket_of table key ≡ b

  pub some_key : (o : Option T) → is_some o ≡ true → (key : List ℕ) × (option_map key_of o ≡ Some key)
  some_key None e = absurd (false≢true e)
  some_key (Some x) e = (key_of x, refl)

  -- a slot of another place isn't in the chain
  pub elsewhere : (slots : Slots T) (table : IndexView) (i : IsIndex key_of slots table) (b id : ℕ) (key : List ℕ) → b < length table.chains → key_at key_of slots.items id ≡ Some key → b ≢ bucket_of table key → Avoids id (i.ids b)
  elsewhere slots table i b id key w e n =
      all_avoids id (i.ids b) (have_still (IsPlaced slots.items table b) (λ y. y ≢ id) (λ y h s. n (sym (h key (ap (key_at key_of slots.items) s ∙ e)))) (i.ids b) (i.placed b w))

  -- chains of two places have nothing in common
  pub places_apart : (slots : Slots T) (table : IndexView) (i : IsIndex key_of slots table) (p b : ℕ) → p < length table.chains → b < length table.chains → b ≢ p → AreDisjoint (i.ids p) (i.ids b)
  places_apart slots table i p b v w n =
      let f = λ (y : ℕ) (t : IsTaken slots.items y) (h : IsPlaced slots.items table b y). let k = some_key (at slots.items y) t in elsewhere slots table i p y k.0 v k.1 (λ e. n (sym (h k.0 k.1) ∙ sym e)) in
      apart_from_all (i.ids p) (i.ids b) (have_both (IsTaken slots.items) (IsPlaced slots.items table b) (λ y. Avoids y (i.ids p)) (i.ids b) f (i.chains b w).held (i.placed b w))

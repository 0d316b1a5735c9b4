-- A record that goes into a free slot and to the front of its key's chain.
use Rattle.std.proofs.Common.{◌≡◌, ◌≢◌, ℕ, ◌<◌, inl, inr, List, ◌∷◌, length, set, Option, Some, None, option_map, is_some, refl, sym, ◌∙◌, ap, subst, arith, length-set}
use Rattle.std.proofs.lemmas.Bool.{cases_eq}
use Rattle.std.proofs.lemmas.Option.{none-some}
use Rattle.pc_chain.specs.declared.stack.Stack.{Stack}
use Rattle.pc_chain.specs.Chains.{Avoids, AllHave}
use Rattle.pc_chain.specs.Stacks.{IsStack}
use Rattle.pc_chain.proofs.ChainLaws.{have_still, have_from, have_both, avoids_all, all_avoids}
use Rattle.pc_chain.proofs.StackLaws.{stack_still}
use Rattle.pc_chain.specs.Slots.{Slots, at, with_item, IsTaken, IsFree}
use Rattle.pc_chain.proofs.SlotLaws.{at_here, at_other, not_both}
use Rattle.pc_index.specs.Indexes.{IndexView, bucket_of, chain_at, IsIndex}
use Rattle.pc_index.specs.Keys.{key_at, IsAbsent, IsSlotOf}
use Rattle.pc_index.proofs.IndexLaws.{slot_kept}
use Rattle.pc_index.proofs.Places.{changed, with_chain, place_same, changed_here, each_place, each_list, one_key, IsPlaced}

module _ {T : Type 0} (key_of : T → List ℕ) where
  other_than : (items : List (Option T)) (id y : ℕ) → at items id ≡ None → IsTaken items y → y ≢ id
  other_than items id y n t e = not_both (at items id) n (subst (IsTaken items) e t)

  -- a free slot is in no chain
  pub free_avoids : (old : Slots T) (table : IndexView) (i : IsIndex key_of old table) (id : ℕ) → at old.items id ≡ None → (b : ℕ) → b < length table.chains → Avoids id (i.ids b)
  free_avoids old table i id n b w = all_avoids id (i.ids b) (have_still (IsTaken old.items) (λ y. y ≢ id) (λ y. other_than old.items id y n) (i.ids b) (i.chains b w).held)

  -- once it is taken, each chain is what it was
  pub line_taken : (old mid : Slots T) (table : IndexView) (i : IsIndex key_of old table) (id : ℕ) (item : T) (chain : Stack ℕ) (b : ℕ) → at old.items id ≡ None → b < length table.chains → mid ≡ with_item old id (Some item) →
      chain ≡ chain_at table b → IsStack (IsTaken mid.items) (at mid.links) chain (i.ids b)
  line_taken old mid table i id item chain b n w e f =
      let taken : Slots T = with_item old id (Some item) in
      let line : IsStack (IsTaken taken.items) (at taken.links) (chain_at table b) (i.ids b) =
      stack_still (IsTaken old.items) (IsTaken taken.items) (at old.links) (at taken.links) (chain_at table b) (i.ids b) (λ y t. ap is_some (at_other old.items id y (Some item) (other_than old.items id y n t)) ∙ t)
      (have_from (λ y. at taken.links y ≡ at old.links y) (λ y. refl) (i.ids b)) (i.chains b w) in
      subst (λ (m : Slots T). IsStack (IsTaken m.items) (at m.links) chain (i.ids b)) (sym e) (subst (λ (c : Stack ℕ). IsStack (IsTaken taken.items) (at taken.links) c (i.ids b)) (sym f) line)

  -- every other key keeps its slot
  pub slot_made : (items : List (Option T)) (id : ℕ) (item : T) (key : List ℕ) (found : Option ℕ) → IsFree items id → key_of item ≢ key → IsSlotOf key_of items key found → IsSlotOf key_of (set items id (Some item)) key found
  slot_made items id item key found f n s = slot_kept key_of items id (Some item) key found f.0 (λ e. none-some _ (sym (ap (option_map key_of) f.1) ∙ e)) (λ e. n (let h : key_of item ≡ key = cc in h)) s

  -- what the push leaves
  pub record Pushed (old new : Slots T) (table : IndexView) (i : IsIndex key_of old table) (key : List ℕ) (id : ℕ) (item : T) (chain : Stack ℕ) : Type 0 where
    pub free : IsFree old.items id
    pub key_is : key_of item ≡ key
    pub absent : IsAbsent key_of old.items key
    pub place_in : bucket_of table key < length table.chains
    pub items : new.items ≡ set old.items id (Some item)
    pub list : IsStack (IsTaken new.items) (at new.links) chain (id ∷ i.ids (bucket_of table key))
    pub others : (b : ℕ) → b < length table.chains → b ≢ bucket_of table key → IsStack (IsTaken new.items) (at new.links) (chain_at table b) (i.ids b)

  module _ (old new : Slots T) (table : IndexView) (i : IsIndex key_of old table) (key : List ℕ) (id : ℕ) (item : T) (chain : Stack ℕ) (m : Pushed old new table i key id item chain) where
    abbrev place : ℕ
    place = bucket_of table key

    abbrev list : List ℕ
    list = id ∷ i.ids place

    abbrev new_table : IndexView
    new_table = with_chain table place chain

    key_other : (y : ℕ) → y ≢ id → key_at key_of new.items y ≡ key_at key_of old.items y
    key_other y n = ap (λ (is : List (Option T)). key_at key_of is y) m.items ∙ ap (option_map key_of) (at_other old.items id y (Some item) n)

    key_here : key_at key_of new.items id ≡ Some key
    key_here = ap (λ (is : List (Option T)). key_at key_of is id) m.items ∙ (ap (option_map key_of) (at_here old.items id (Some item) m.free.0) ∙ ap Some m.key_is)

    -- the key of a slot is that of the new record, or it is as it was
    known : (y : ℕ) (k : List ℕ) → y ≡ id → key_at key_of new.items y ≡ Some k → k ≡ key
    known y k s e = one_key k key (key_at key_of new.items y) e (ap (key_at key_of new.items) s ∙ key_here)

    before : (y : ℕ) (k : List ℕ) → y ≢ id → key_at key_of new.items y ≡ Some k → key_at key_of old.items y ≡ Some k
    before y k n e = sym (key_other y n) ∙ e

    olds_placed : (b : ℕ) → b < length table.chains → AllHave (IsPlaced key_of new.items new_table b) (i.ids b)
    olds_placed b w =
        have_both (IsPlaced key_of old.items table b) (λ y. y ≢ id) (IsPlaced key_of new.items new_table b) (i.ids b) (λ y h d k e. place_same table place chain k ∙ h k (before y k d e)) (i.placed b w)
        (avoids_all id (i.ids b) (free_avoids old table i id m.free.1 b w))

    placed : (b : ℕ) → b < length table.chains → AllHave (IsPlaced key_of new.items new_table b) (changed i.ids place list b)
    placed = each_list (λ b ys. b < length table.chains → AllHave (IsPlaced key_of new.items new_table b) ys) i.ids place list
        (λ w. ((λ k e. place_same table place chain k ∙ ap (bucket_of table) (known id k refl e)), olds_placed place w)) olds_placed

    all : (y : ℕ) (k : List ℕ) → key_at key_of new.items y ≡ Some k → Avoids y (changed i.ids place list (bucket_of new_table k)) → ⊥
    all y k e a = elim (cases_eq y id) [
      | inl s ↦
          let here : bucket_of new_table k ≡ place = place_same table place chain k ∙ ap (bucket_of table) (known y k s e) in
          let b : Avoids y list = subst (Avoids y) (changed_here i.ids place list (bucket_of new_table k) here) a in
          b.0 (sym s)
      | inr n ↦ i.all y k (before y k n e) (fewer (bucket_of table k) (subst (λ (q : ℕ). Avoids y (changed i.ids place list q)) (place_same table place chain k) a))
    ]
      where
        fewer : (q : ℕ) → Avoids y (changed i.ids place list q) → Avoids y (i.ids q)
        fewer = each_list (λ q ys. Avoids y ys → Avoids y (i.ids q)) i.ids place list (λ a. a.1) (λ q a. a)

    distinct : (y z : ℕ) (k : List ℕ) → key_at key_of new.items y ≡ Some k → key_at key_of new.items z ≡ Some k → y ≡ z
    distinct y z k e f = elim (cases_eq y id) [
      | inl s ↦ elim (cases_eq z id) [
        | inl t ↦ s ∙ sym t
        | inr n ↦ absurd (m.absent z (before z k n f ∙ ap Some (known y k s e)))
      ]
      | inr n ↦ elim (cases_eq z id) [
        | inl t ↦ absurd (m.absent y (before y k n e ∙ ap Some (known z k t f)))
        | inr d ↦ i.distinct y z k (before y k n e) (before z k d f)
      ]
    ]

    pub index_made : IsIndex key_of new (with_chain table (bucket_of table key) chain)
    index_made =
        let n : length new_table.chains ≡ length table.chains = length-set table.chains place chain in
        record {
          ids = changed i.ids place list;
          chains = λ b w. each_place (IsStack (IsTaken new.items) (at new.links)) table i.ids place chain list m.place_in m.list m.others b (omega (arith, w, n));
          placed = λ b w. placed b (omega (arith, w, n));
          all = all;
          distinct = distinct;
        }

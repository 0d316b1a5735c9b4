-- What leaves each key and each link keeps the index.
use Rattle.std.proofs.Common.{◌≡◌, ◌≢◌, ℕ, ◌<◌, length, inl, inr, set, List, Option, Some, None, option_map, is_some, refl, sym, ap, ◌∙◌}
use Rattle.std.proofs.lemmas.Bool.{cases_eq}
use Rattle.pc_chain.proofs.ChainLaws.{have_still, have_from}
use Rattle.pc_chain.proofs.StackLaws.{stack_still}
use Rattle.pc_chain.specs.Slots.{Slots, at, IsTaken}
use Rattle.pc_chain.proofs.SlotLaws.{at_here, at_other, taken_below}
use Rattle.pc_index.specs.Indexes.{IndexView, chain_at, IsIndex}
use Rattle.pc_index.specs.Keys.{key_at, IsSlotOf}
use Rattle.pc_index.proofs.Places.{IsPlaced}

module _ {T : Type 0} (key_of : T → List ℕ) where
  some_mapped : (o : Option T) → is_some (option_map key_of o) ≡ is_some o
  some_mapped None = refl
  some_mapped (Some x) = refl

  pub index_kept : (old new : Slots T) (table : IndexView) → ((id : ℕ) → key_at key_of new.items id ≡ key_at key_of old.items id) → ((id : ℕ) → at new.links id ≡ at old.links id) → IsIndex key_of old table → IsIndex key_of new table
  index_kept old new table k l i = record {
    ids = i.ids;
    chains = λ b w. stack_still (IsTaken old.items) (IsTaken new.items) (at old.links) (at new.links) (chain_at table b) (i.ids b)
        (λ y h. sym (some_mapped (at new.items y)) ∙ (ap is_some (k y) ∙ (some_mapped (at old.items y) ∙ h)))
        (have_from (λ y. at new.links y ≡ at old.links y) l (i.ids b)) (i.chains b w);
    placed = λ b w. have_still (IsPlaced key_of old.items table b) (IsPlaced key_of new.items table b) (λ y h key e. h key (sym (k y) ∙ e)) (i.ids b) (i.placed b w);
    all = λ id key e a. i.all id key (sym (k id) ∙ e) a;
    distinct = λ id other key e f. i.distinct id other key (sym (k id) ∙ e) (sym (k other) ∙ f);
  }

  -- another record of the same key leaves each key
  pub keys_set : (items : List (Option T)) (id : ℕ) (x v : T) → at items id ≡ Some x → key_of v ≡ key_of x → (y : ℕ) → key_at key_of (set items id (Some v)) y ≡ key_at key_of items y
  keys_set items id x v e k y = elim (cases_eq y id) [
    | inl s ↦ ap (key_at key_of (set items id (Some v))) s ∙ (ap (option_map key_of) (at_here items id (Some v) (taken_below items id (ap is_some e))) ∙ (ap Some k ∙ (sym (ap (option_map key_of) e) ∙ ap (key_at key_of items) (sym s))))
    | inr n ↦ ap (option_map key_of) (at_other items id y (Some v) n)
  ]

  -- what is written to a slot leaves the slot of each key that neither the record there has nor the new one
  pub slot_kept : (items : List (Option T)) (id : ℕ) (v : Option T) (key : List ℕ) (found : Option ℕ) → id < length items → key_at key_of items id ≢ Some key → option_map key_of v ≢ Some key →
      IsSlotOf key_of items key found → IsSlotOf key_of (set items id v) key found
  slot_kept items id v key found w n m s = λ y. elim (cases_eq y id) [
    | inl e ↦ (
      (λ f. absurd (n (ap (key_at key_of items) (sym e) ∙ (s y).0 f))),
      (λ h. absurd (m (sym (ap (option_map key_of) (ap (at (set items id v)) e ∙ at_here items id v w)) ∙ h))),
    )
    | inr d ↦
        let same : key_at key_of (set items id v) y ≡ key_at key_of items y = ap (option_map key_of) (at_other items id y v d) in
        ((λ f. same ∙ (s y).0 f), (λ h. (s y).1 (sym same ∙ h)))
  ]

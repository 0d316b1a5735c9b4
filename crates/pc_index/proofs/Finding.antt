-- Looking for a key along the chain of its place.
use Rattle.std.proofs.Common.{◌≡◌, ℕ, ◌<◌, ◌≤◌, List, [], ◌∷◌, length, Option, Some, None, option_map, Bool, true, false, refl, sym, ◌∙◌, ap, subst}
use Rattle.std.proofs.lemmas.Bool.{or_parts}
use Rattle.std.proofs.lemmas.Option.{none-some}
use Rattle.std.specs.List.{list_any}
use Rattle.pc_chain.specs.Chains.{Avoids}
use Rattle.pc_chain.specs.Stacks.{IsStack}
use Rattle.pc_chain.proofs.StackLaws.{stack_fits}
use Rattle.pc_chain.specs.Slots.{Slots, at, IsTaken}
use Rattle.pc_chain.proofs.SlotLaws.{taken_below}
use Rattle.pc_index.specs.Indexes.{IndexView, bucket_of, chain_at, IsIndex}
use Rattle.pc_index.specs.Keys.{key_at, IsAbsent, IsSlotOf}
use Rattle.pc_index.proofs.Linked.{linked}
use Rattle.pc_index.proofs.Texts.{same_text, one_text, own_text}

-- an id that passes isn't in a list of which none does
avoids_where_none : (test : ℕ → Bool) (xs : List ℕ) (id : ℕ) → list_any test xs ≡ false → test id ≡ true → Avoids id xs
avoids_where_none test [] id n y = tt
avoids_where_none test (x ∷ xs) id n y =
    let h = or_parts (test x) (list_any test xs) n in
    ((λ (e : x ≡ id). let f : test x ≡ true = ap test e ∙ y in let g : test x ≡ false = h.0 in cc), avoids_where_none test xs id h.1 y)

module _ {T : Type 0} (key_of : T → List ℕ) where
  -- the record, if there is one, has the key
  abbrev pub is_key : List ℕ → Option T → Bool
  is_key key None = false
  is_key key (Some x) = same_text (key_of x) key

  is_key_at : (key : List ℕ) (o : Option T) → option_map key_of o ≡ Some key → is_key key o ≡ true
  is_key_at key None e = absurd cc
  is_key_at key (Some x) e = let f : key_of x ≡ key = cc in rw f (own_text key)

  pub is_key_of : (key k : List ℕ) (o : Option T) → option_map key_of o ≡ Some k → is_key key o ≡ same_text k key
  is_key_of key k None e = absurd cc
  is_key_of key k (Some x) e = let f : key_of x ≡ k = cc in ap (λ (z : List ℕ). same_text z key) f

  -- a slot that has a key has a record
  pub item_there : (o : Option T) (k : List ℕ) → option_map key_of o ≡ Some k → (x : T) × (o ≡ Some x) × (key_of x ≡ k)
  item_there None k e = absurd cc
  item_there (Some x) k e = (x, refl, cc)

  -- the slot that is found
  pub slot_found : (slots : Slots T) (table : IndexView) (key k : List ℕ) (id : ℕ) → IsIndex key_of slots table → key_at key_of slots.items id ≡ Some k → true ≡ same_text k key → IsSlotOf key_of slots.items key (Some id)
  slot_found slots table key k id i e t = λ other.
      let this : key_at key_of slots.items id ≡ Some key = e ∙ ap Some (one_text k key (sym t)) in
      ((λ s. ap (key_at key_of slots.items) (let f : other ≡ id = cc in f) ∙ this), (λ h. ap Some (i.distinct id other key this h)))

  -- the chain of a key's place, over the links of whoever keeps the slots
  pub line_of : (slots : Slots T) (table : IndexView) (i : IsIndex key_of slots table) (key : List ℕ) (n : ℕ) (has : ℕ → Type 0) (next : ℕ → Option ℕ) → ((id : ℕ) → next id ≡ at slots.links id) → ((id : ℕ) → IsTaken slots.items id → has id) →
      n ≡ bucket_of table key → n < length table.chains → IsStack has next (chain_at table (bucket_of table key)) (i.ids (bucket_of table key))
  line_of slots table i key n has next l k e w =
      let p : ℕ = bucket_of table key in
      linked slots has next l (chain_at table p) (i.ids p) k (i.chains p (subst (λ (q : ℕ). q < length table.chains) e w))

  -- if none of the chain has the key, no record has it
  pub slot_missing : (slots : Slots T) (table : IndexView) (key : List ℕ) (i : IsIndex key_of slots table) → false ≡ list_any (λ id. is_key key (at slots.items id)) (i.ids (bucket_of table key)) → IsSlotOf key_of slots.items key None
  slot_missing slots table key i n = λ id.
      let absent : IsAbsent key_of slots.items key = λ y e. i.all y key e (avoids_where_none (λ z. is_key key (at slots.items z)) (i.ids (bucket_of table key)) y (sym n) (is_key_at key (at slots.items y) e)) in
      ((λ s. absurd (none-some id s)), (λ h. absurd (absent id h)))

  -- no record has the key if its slot is none, and no other if it is one
  pub none_absent : (items : List (Option T)) (key : List ℕ) (found : Option ℕ) → IsSlotOf key_of items key found → found ≡ None → IsAbsent key_of items key
  none_absent items key found s e id h = none-some id (sym e ∙ (s id).1 h)

  -- a key has one slot or none
  pub one_slot : (items : List (Option T)) (key : List ℕ) (id other : ℕ) → IsSlotOf key_of items key (Some id) → IsSlotOf key_of items key (Some other) → id ≡ other
  one_slot items key id other s t = let e : Some id ≡ Some other = (s other).1 ((t other).0 refl) in cc

  pub no_slot : (items : List (Option T)) (key : List ℕ) (id : ℕ) → IsSlotOf key_of items key None → IsSlotOf key_of items key (Some id) → ⊥
  no_slot items key id s t = none-some id ((s id).1 ((t id).0 refl))

  pub not_absent : (items : List (Option T)) (key : List ℕ) (id : ℕ) → IsSlotOf key_of items key (Some id) → IsAbsent key_of items key → ⊥
  not_absent items key id s a = a id ((s id).0 refl)

  pub chain_short : (slots : Slots T) (table : IndexView) (i : IsIndex key_of slots table) (b : ℕ) → b < length table.chains → length (i.ids b) ≤ length slots.items
  chain_short slots table i b w = stack_fits (IsTaken slots.items) (at slots.links) (chain_at table b) (i.ids b) (length slots.items) (taken_below slots.items) (i.chains b w)

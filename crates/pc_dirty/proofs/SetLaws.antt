-- Sets whose links stay, and what is known of their lists.
use Rattle.std.proofs.Common.{◌≡◌, ℕ, zero, suc, List, [], ◌∷◌, length, Option, refl, ◌∙◌, ap, arith}
use Rattle.pc_chain.specs.declared.chain.Chain.{Chain}
use Rattle.pc_chain.specs.Chains.{first_of, AllHave, Leads, IsChain}
use Rattle.pc_chain.proofs.ChainLaws.{empty_chain}
use Rattle.pc_dirty.proofs.Changing.{avoids_slots}
use Rattle.pc_dirty.specs.declared.side.SideSlot.{SideSlot}
use Rattle.pc_dirty.specs.declared.side.Side.{Side}
use Rattle.pc_dirty.specs.declared.dirty.Dirty.{Dirty}
use Rattle.pc_dirty.specs.Sets.{other_side, place_on_side, places_of, AreSets, AreEmpty, HasNoRepeats, linked_slots, opened_of, closed_of}

-- two empty sets, over any links
pub empty_sets : (has : SideSlot → Type 0) (next : SideSlot → Option SideSlot) (dirty : Dirty) → AreEmpty dirty → AreSets has next dirty [] []
empty_sets has next dirty e = record {
  open_chain = empty_chain has next dirty.opened e.opened;
  closed_chain = empty_chain has next dirty.closed e.closed;
  open_count = e.open_count;
  closed_count = e.closed_count;
}

slots_have : (P : SideSlot → Type 0) (side : Side) (slots : List ℕ) → AllHave P (places_of side slots) → AllHave (λ slot. P (place_on_side side slot)) slots
slots_have P side [] h = tt
slots_have P side (x ∷ xs) h = (h.0, slots_have P side xs h.1)

places_have : (P : SideSlot → Type 0) (side : Side) (slots : List ℕ) → AllHave (λ slot. P (place_on_side side slot)) slots → AllHave P (places_of side slots)
places_have P side [] h = tt
places_have P side (x ∷ xs) h = (h.0, places_have P side xs h.1)

leads_still : (next next' : SideSlot → Option SideSlot) (side : Side) (slots : List ℕ) → AllHave (λ slot. next' (place_on_side side slot) ≡ next (place_on_side side slot)) slots → Leads next (places_of side slots) → Leads next' (places_of side slots)
leads_still next next' side [] s l = tt
leads_still next next' side (x ∷ xs) s l = (s.0 ∙ l.0, l.1, leads_still next next' side xs s.1 l.2)

chain_stays : (has has' : SideSlot → Type 0) (next next' : SideSlot → Option SideSlot) (side : Side) (slots : List ℕ) (chain : Chain SideSlot) → AllHave (λ slot. has' (place_on_side side slot)) slots → AllHave (λ slot. next' (place_on_side side slot) ≡ next (place_on_side side slot)) slots → IsChain has next chain (places_of side slots) →
    IsChain has' next' chain (places_of side slots)
chain_stays has has' next next' side slots chain h s c = record {
  first = c.first;
  last = c.last;
  leads = leads_still next next' side slots s c.leads;
  held = places_have has' side slots h;
}

-- sets of which each slot has its links still, and they lead where they led
pub sets_stay : (has has' : SideSlot → Type 0) (next next' : SideSlot → Option SideSlot) (dirty : Dirty) (opened closed : List ℕ) → AllHave (λ slot. has' (place_on_side dirty.side slot)) opened → AllHave (λ slot. next' (place_on_side dirty.side slot) ≡ next (place_on_side dirty.side slot)) opened →
    AllHave (λ slot. has' (place_on_side (other_side dirty.side) slot)) closed → AllHave (λ slot. next' (place_on_side (other_side dirty.side) slot) ≡ next (place_on_side (other_side dirty.side) slot)) closed → AreSets has next dirty opened closed → AreSets has' next' dirty opened closed
sets_stay has has' next next' dirty opened closed h s k t d = record {
  open_chain = chain_stays has has' next next' dirty.side opened dirty.opened h s d.open_chain;
  closed_chain = chain_stays has has' next next' (other_side dirty.side) closed dirty.closed k t d.closed_chain;
  open_count = d.open_count;
  closed_count = d.closed_count;
}

once : (next : SideSlot → Option SideSlot) (side : Side) (slots : List ℕ) → Leads next (places_of side slots) → HasNoRepeats slots
once next side [] l = tt
once next side (x ∷ xs) l = (avoids_slots side x xs l.1, once next side xs l.2)

follow_is : (next : SideSlot → Option SideSlot) (side : Side) (n : ℕ) (slots : List ℕ) → Leads next (places_of side slots) → n ≡ length slots → linked_slots next n (first_of (places_of side slots)) ≡ slots
follow_is next side n [] l h = refl
follow_is next side zero (x ∷ xs) l h = absurd (omega (arith, h))
follow_is next side (suc n) (x ∷ xs) l h = ap (λ ys. x ∷ ys) (ap (linked_slots next n) l.0 ∙ follow_is next side n xs l.2 (omega (arith, h)))

-- what is known of the two lists: none has a slot twice, each slot has its link, and the links lead along them
module _ (has : SideSlot → Type 0) (next : SideSlot → Option SideSlot) (dirty : Dirty) (opened closed : List ℕ) (d : AreSets has next dirty opened closed) where
  pub opened_once : HasNoRepeats opened
  opened_once = once next dirty.side opened d.open_chain.leads

  pub closed_once : HasNoRepeats closed
  closed_once = once next (other_side dirty.side) closed d.closed_chain.leads

  pub opened_have : AllHave (λ slot. has (place_on_side dirty.side slot)) opened
  opened_have = slots_have has dirty.side opened d.open_chain.held

  pub closed_have : AllHave (λ slot. has (place_on_side (other_side dirty.side) slot)) closed
  closed_have = slots_have has (other_side dirty.side) closed d.closed_chain.held

  pub opened_is : opened_of next dirty ≡ opened
  opened_is = ap (linked_slots next dirty.open_count) d.open_chain.first ∙ follow_is next dirty.side dirty.open_count opened d.open_chain.leads d.open_count

  pub closed_is : closed_of next dirty ≡ closed
  closed_is = ap (linked_slots next dirty.closed_count) d.closed_chain.first ∙ follow_is next (other_side dirty.side) dirty.closed_count closed d.closed_chain.leads d.closed_count

-- Chains over the links of slots, as whoever keeps the slots tells of them.
use Rattle.std.proofs.Common.{◌≡◌, ℕ, List, Option, sym}
use Rattle.pc_chain.specs.declared.stack.Stack.{Stack}
use Rattle.pc_chain.specs.Stacks.{IsStack}
use Rattle.pc_chain.specs.Slots.{Slots, at, IsTaken}
use Rattle.pc_chain.proofs.ChainLaws.{have_from}
use Rattle.pc_chain.proofs.StackLaws.{stack_still}

module _ {T : Type 0} (slots : Slots T) (has : ℕ → Type 0) (next : ℕ → Option ℕ) (l : (id : ℕ) → next id ≡ at slots.links id) (chain : Stack ℕ) (xs : List ℕ) where
  -- a chain of slots is one of the keeper's links
  pub linked : ((id : ℕ) → IsTaken slots.items id → has id) → IsStack (IsTaken slots.items) (at slots.links) chain xs → IsStack has next chain xs
  linked k s = stack_still (IsTaken slots.items) has (at slots.links) next chain xs k (have_from (λ y. next y ≡ at slots.links y) l xs) s

  -- and the other way round
  pub of_slots : ((id : ℕ) → has id → IsTaken slots.items id) → IsStack has next chain xs → IsStack (IsTaken slots.items) (at slots.links) chain xs
  of_slots k s = stack_still has (IsTaken slots.items) next (at slots.links) chain xs k (have_from (λ y. at slots.links y ≡ next y) (λ y. sym (l y)) xs) s

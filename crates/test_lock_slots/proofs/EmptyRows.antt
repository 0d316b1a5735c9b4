-- A row of ends of empty queues.
use Rattle.std.proofs.Common.{◌≡◌, ℕ, zero, suc, List, replicate, refl, sym, subst}
use Rattle.pc_chain.specs.declared.chain.Chain.{Chain}
use Rattle.pc_chain.specs.Chains.{IsEmpty}
use Rattle.pc_locks.specs.Lines.{no_chain}
use Rattle.test_lock_slots.specs.Rows.{ends_at}

none_at : (n slot : ℕ) → IsEmpty (ends_at (replicate n no_chain) slot)
none_at zero slot = (refl, refl)
none_at (suc n) zero = (refl, refl)
none_at (suc n) (suc slot) = none_at n slot

pub empty_at : (ends : List (Chain ℕ)) → ends ≡ replicate 16 no_chain → (slot : ℕ) → IsEmpty (ends_at ends slot)
empty_at ends e slot = subst (λ xs. IsEmpty (ends_at xs slot)) (sym e) (none_at 16 slot)

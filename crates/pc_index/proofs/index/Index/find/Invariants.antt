use Rattle.std.proofs.Common.{List, ℕ}
use Rattle.pc_chain.specs.Stacks.{IsStack}
use Rattle.pc_chain.specs.Searches.{Looked}
use Rattle.pc_chain.specs.Slots.{at}
use Rattle.pc_index.specs.Indexes.{bucket_of, chain_at}
use Rattle.pc_index.proofs.Finding.{is_key}
use Rattle.pc_index.proofs.index.Index.find.Given as goal

-- of the chain a rest is left, and the answer for it is that for all
abbrev pub invariant-loop : goal.invariant-loop
invariant-loop g l =
    (xs : List ℕ) → IsStack (g.S.Links.has l.slots) (g.S.Links.next_of l.slots) (chain_at l.fn.self (bucket_of l.fn.self l.key)) xs →
    Looked (g.S.Links.has l.slots) (g.S.Links.next_of l.slots) (λ id. is_key g.S.KeyedSlots.key_of l.key (at (g.S.KeyedSlots.slots_of l.slots).items id)) l.at l.counter xs

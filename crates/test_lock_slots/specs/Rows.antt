-- The ends of slots in a row.
use Rattle.std.specs.Prelude.{ℕ, List, slice_index_or}
use Rattle.pc_chain.specs.declared.chain.Chain.{Chain}
use Rattle.pc_locks.specs.Lines.{no_chain}

-- the ends at a place, those of an empty queue if there is no such place
abbrev pub ends_at : List (Chain ℕ) → ℕ → Chain ℕ
ends_at ends slot = slice_index_or ends slot no_chain

use Rattle.pc_index.specs.Indexes.{IsIndex}
use Rattle.test_slots.specs.declared.indexes.CountRow.{CountRow}
use Rattle.test_slots.proofs.indexes.right.Given as goal

abbrev pub invariant-loop-number : goal.invariant-loop-number
invariant-loop-number l = IsIndex (λ (row : CountRow). row.key) l.arena l.index

use Rattle.std.proofs.Common.{◌≡◌, ◌++◌, length}
use Rattle.std.specs.Vec.Iter.{into_iter_items, into_iter_len}
use Rattle.pc_dirty.specs.declared.side.Side.TheVariants.{First}
use Rattle.pc_records.specs.Slots.{slots_in, committed_pairs}
use Rattle.pc_records.proofs.CommittedPairs.{pairs_in}
use Rattle.pc_records.proofs.slots.committed_pairs.Given as goal

-- the pairs so far, and those that are left
abbrev pub invariant-loop-key : goal.invariant-loop-key
invariant-loop-key l = record {
  counted : into_iter_len l.key-iterator ≡ length (into_iter_items l.key-iterator);
  left : l.pairs.items ++ pairs_in (into_iter_items l.key-iterator) ≡ committed_pairs (slots_in First l.table.rows);
}

use Rattle.pc_dirty.specs.declared.side.Side.TheVariants.{First}
use Rattle.pc_records.proofs.slots.contents_in.Given as goal
use Rattle.pc_records.proofs.CommittedPairs.{AreContents}

-- what is committed in the slots so far
abbrev pub invariant-loop-id : goal.invariant-loop-id
invariant-loop-id l = AreContents First l.table l.id l.contents.items

use Rattle.pc_shared.specs.Takes.{HasTaken}
use Rattle.pc_shared.proofs.store.UnderLatch.take_keys.Given as goal

-- this many keys were taken
abbrev pub invariant-loop-keys : goal.invariant-loop-keys
invariant-loop-keys g l = HasTaken g.N.StoreName.name.setting l.keys l.fn.checkpointer l.checkpointer

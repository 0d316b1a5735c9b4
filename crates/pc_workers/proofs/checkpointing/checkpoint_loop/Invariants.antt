use Rattle.pc_model.specs.History.{point_of}
use Rattle.pc_workers.specs.Checkpointing.{whole_cycles, HasCycled, HasPublished}
use Rattle.pc_workers.proofs.checkpointing.checkpoint_loop.Given as goal

-- this many whole cycles, and their points published
abbrev pub invariant-loop : goal.invariant-loop
invariant-loop g l = HasCycled g.N.StoreName.name.setting l.counter l.fn.seat l.seat × HasPublished (whole_cycles (point_of l.fn.seat) l.counter) l.fn.pass l.pass

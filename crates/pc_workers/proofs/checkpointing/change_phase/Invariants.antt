use Rattle.pc_workers.specs.Checkpointing.{HasStood}
use Rattle.pc_workers.proofs.checkpointing.change_phase.Given as goal

-- no phase was entered so far
abbrev pub invariant-loop : goal.invariant-loop
invariant-loop g l = HasStood g.N.StoreName.name.setting l.fn.seat l.seat

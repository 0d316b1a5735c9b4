use Rattle.pc_model.specs.Calls.{IsBeginning}
use Rattle.pc_workers.proofs.Holding.{Holds}
use Rattle.pc_workers.proofs.collapsing.collapse_loop.Given as goal

-- the files of the claimed numbers are held, and the witness has seen more
abbrev pub invariant-loop : goal.invariant-loop
invariant-loop g l = Holds l.share.points l.fn.pass l.pass l.held.items × IsBeginning l.fn.witness l.witness

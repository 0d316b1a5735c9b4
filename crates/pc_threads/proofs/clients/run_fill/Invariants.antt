use Rattle.pc_threads.specs.Clients.{AreFillsTried, HasDone, first_jobs}
use Rattle.pc_threads.proofs.clients.run_fill.Given as goal

-- this many transactions are done
abbrev pub invariant-loop-number : goal.invariant-loop-number
invariant-loop-number g l = HasDone (AreFillsTried g.N.StoreName.name.setting (first_jobs l.fill l.number)) (first_jobs l.fill l.number) l.given_up l.fn.session l.session

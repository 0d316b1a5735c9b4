use Rattle.std.specs.Prelude.{take}
use Rattle.std.specs.List.{flat_map}
use Rattle.pc_threads.specs.Clients.{AreDone, HasDone, jobs_in}
use Rattle.pc_threads.proofs.clients.run_works.Given as goal

-- the works so far are done
abbrev pub invariant-loop-work : goal.invariant-loop-work
invariant-loop-work g l =
    HasDone (AreDone g.N.StoreName.name.setting (take l.work-index l.works)) (flat_map jobs_in (take l.work-index l.works)) l.given_up l.fn.session l.session

use Rattle.std.proofs.Common.{◌≡◌, ◌+◌, ◌<◌, false, take}
use Rattle.std.specs.Prelude.{IfSome, is_some}
use Rattle.pc_workers.specs.Clients.{HasTried}
use Rattle.pc_workers.specs.Waits.{AreHeld}
use Rattle.pc_workers.proofs.clients.client_loop.Given as goal

-- the jobs so far were tried, this many of them were committed, and each was counted once; after each commit the client has waited
abbrev pub invariant-loop-job : goal.invariant-loop-job
invariant-loop-job g l = record {
  tried : HasTried g.N.StoreName.name.setting (take l.job-index l.jobs) l.count.commits l.fn.session l.session;
  all : l.count.commits + l.count.given_up ≡ l.job-index;
  lag : l.patience.lag ≡ l.fn.lag;
  held : IfSome l.fn.lag (λ most. 0 < l.count.commits → is_some l.patience.log_end ≡ false → AreHeld g.N.StoreName.out g.N.StoreName.name.setting most l.session);
  ours : IfSome l.patience.log_end (λ mark. mark.token.of ≡ l.desk.shared.now.logged.ended.id);
}

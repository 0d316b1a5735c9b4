use Rattle.std.specs.Prelude.{◌≡◌, [], false}
use Rattle.pc_model.specs.Calls.{IsBeginning}
use Rattle.pc_model.specs.History.{is_open}
use Rattle.pc_workers.specs.Attempts.{AreDeaths}
use Rattle.pc_workers.specs.Clients.{HasCommitted}
use Rattle.pc_workers.specs.Waits.{KeepsMark}
use Rattle.pc_workers.proofs.clients.repeat.Given as goal

-- nothing was committed, and each attempt so far has died
abbrev pub invariant-loop : goal.invariant-loop
invariant-loop g l = record {
  committed : HasCommitted [] l.fn.session l.session;
  begins : IsBeginning l.fn.session.seen l.session.seen;
  lag : l.patience.lag ≡ l.fn.patience.lag;
  mark : KeepsMark (λ mark. mark.token.of ≡ l.desk.shared.now.logged.ended.id) l.fn.patience.log_end l.patience.log_end;
  died : is_open l.fn.session.number l.fn.session.seen ≡ false → AreDeaths g.N.StoreName.name.setting l.fn.session.number l.ops l.counter l.fn.session.seen l.session.seen;
}

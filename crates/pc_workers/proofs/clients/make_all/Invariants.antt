use Rattle.std.proofs.Common.{◌≡◌, [], take}
use Rattle.pc_workers.specs.Attempts.{AreMade}
use Rattle.pc_workers.specs.Clients.{HasCommitted, session_writes, wrote_all}
use Rattle.pc_workers.proofs.clients.make_all.Given as goal

-- nothing was committed, the operations so far were made, and the transaction has their writes
abbrev pub invariant-loop-op : goal.invariant-loop-op
invariant-loop-op g l = record {
  committed : HasCommitted [] l.fn.session l.session;
  made : AreMade g.N.StoreName.name.setting l.fn.session.number (take l.op-index l.ops) l.fn.session.seen l.session.seen;
  wrote : session_writes l.session ≡ wrote_all (session_writes l.fn.session) (take l.op-index l.ops);
}

use Rattle.std.proofs.Common.{Ok}
use Rattle.pc_io.specs.Tallies.{Puts}
use Rattle.pc_log.specs.Texts.{log_text}
use Rattle.pc_workers.proofs.logging.log_loop.Given as goal

-- the text of the entries that were handed out has gone out
abbrev pub invariant-loop : goal.invariant-loop
invariant-loop g l = Puts g.W.Write.contents l.fn.out l.out (Ok tt) (log_text g.N.StoreName.name.setting.run l.pass)

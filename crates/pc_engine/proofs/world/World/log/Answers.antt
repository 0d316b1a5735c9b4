use Rattle.std.proofs.Common.{ap, sym, subst}
use Rattle.pc_log.specs.Laws.{IsLog}
use Rattle.pc_engine.specs.Store.{Store}
use Rattle.pc_engine.proofs.LoggedTexts.{log_has_text}
use Rattle.pc_engine.proofs.world.World.log.Goals as goal

pub returns-clause-limit : goal.returns-clause-limit
returns-clause-limit c = c.self.inside.log.limit

pub returns-clause-lawful : goal.returns-clause-lawful
returns-clause-lawful c history stands = subst IsLog (sym (ap (λ (w : Store). w.log) c.self.view_is)) (log_has_text c.args.self.now history stands)

use Rattle.std.proofs.Common.{ap, subst, sym, true}
use Rattle.pc_server.specs.Turns.{IsNoted}
use Rattle.pc_server.specs.declared.server.Server.{Server}
use Rattle.pc_server.proofs.server.Server.note_since.Goals as goal

pub returns-clause-noted : goal.returns-clause-noted
returns-clause-noted c =
    subst (λ counts. IsNoted true c.args.self.now.served.world.log c.args.before c.args.self.now.counts counts) (sym (ap (λ (s : Server). s.counts) c.note_pace.ensures))
    (subst (λ l. IsNoted true l c.args.before c.args.self.now.counts c.note.new.self) c.log.ensures.log c.note.ensures)

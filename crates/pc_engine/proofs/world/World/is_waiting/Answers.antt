use Rattle.std.proofs.Common.{rules, ◌≡◌, ◌∙◌}
use Rattle.pc_transactions.specs.Sessions.{waits_in}
use Rattle.pc_engine.specs.Store.{active_of}
use Rattle.pc_engine.proofs.WaitingLaws.{waits_told}
use Rattle.pc_engine.proofs.world.World.is_waiting.Goals as goal

pub returns-then-session-ne0-clause-told : goal.returns-then-session-ne0-clause-told
returns-then-session-ne0-clause-told c history stands =
    let w = c.args.self.now in
    let row : c.has_waiting.result ≡ waits_in w.kept.rows (active_of w c.args.session) = search rules in
    row ∙ waits_told w history c.args.session stands

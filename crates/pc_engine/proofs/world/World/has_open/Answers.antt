use Rattle.std.proofs.Common.{rules, ◌≡◌, ◌∙◌}
use Rattle.std.specs.Prelude.{is_some}
use Rattle.pc_engine.specs.Store.{active_of}
use Rattle.pc_engine.proofs.WaitingLaws.{opens_told}
use Rattle.pc_engine.proofs.world.World.has_open.Goals as goal

pub returns-then-session-ne0-clause-told : goal.returns-then-session-ne0-clause-told
returns-then-session-ne0-clause-told c history stands =
    let w = c.args.self.now in
    let row : c.has_open.result ≡ is_some (active_of w c.args.session) = search rules in
    row ∙ opens_told w history c.args.session stands

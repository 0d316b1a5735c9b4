use Rattle.std.proofs.Common.{length, ap, subst, false, ◌∙◌}
use Rattle.pc_server.specs.Turns.{IsNoted}
use Rattle.pc_server.proofs.ServerLaws.{went}
use Rattle.pc_server.proofs.server.Server.go_on.Goals as goal

pub returns-clause-went : goal.returns-clause-went
returns-clause-went c = λ st gone turn at history stays.
    let turned = c.go_on-turned.ensures.turn history stays.serves.stands in
    let before = c.len-before.ensures ∙ ap length c.log.ensures.log in
    let noted = subst (λ n. IsNoted false c.go_on-turned.new.world.log n c.args.self.now.counts c.note.new.self) before (subst (λ l. IsNoted false l c.len-before.result c.args.self.now.counts c.note.new.self) c.log-2.ensures.log c.note.ensures) in
    went st gone turn at history turned.0 c.args.self.now c.go_on-turned.new.world c.go_on-turned.new.self c.note.new.self c.go_on-turned.result stays c.go_on-turned.ensures.setting turned.1 turned.2 noted

use Rattle.std.proofs.Common.{length, ap, subst, sym, true, ◌∙◌}
use Rattle.pc_server.specs.Turns.{IsNoted, paced}
use Rattle.pc_server.proofs.ServerLaws.{line_told}
use Rattle.pc_server.proofs.server.Server.ask.Goals as goal

pub returns-in-Ok-clause-told : goal.returns-in-Ok-clause-told
returns-in-Ok-clause-told c = λ st gone turn at history stays.
    let before = c.len-before.ensures ∙ ap length c.log.ensures.log in
    let served = c.answer.new.self in
    let noted = subst (λ n. IsNoted true served.world.log n c.args.self.now.counts c.note_since.new.self.counts) before c.note_since.ensures.noted in
    line_told st gone turn at history c.args.self.now c.note_since.new.self served c.answer.new.out (paced c.args.self.now.pace c.len-before.result (length served.world.log)) c.note_since.new.self.counts c.answer.result c.args.line tt stays c.in-Ok.is c.note_since.ensures.changed noted
    (c.answer.ensures.answered st history stays.serves)

pub returns-in-Ok-clause-paced : goal.returns-in-Ok-clause-paced
returns-in-Ok-clause-paced c =
    let before = c.len-before.ensures ∙ ap length c.log.ensures.log in
    let same = c.note_since.ensures.changed in
    ap (λ s. s.pace) same ∙ (ap (λ n. paced c.args.self.now.pace n (length c.answer.new.self.world.log)) before ∙ ap (λ s. paced c.args.self.now.pace (length c.args.self.now.served.world.log) (length s.served.world.log)) (sym same))

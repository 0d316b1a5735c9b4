use Rattle.pc_serving.proofs.AnswerLaws.{line_answered}
use Rattle.pc_serving.proofs.answers.Served.answer.Goals as goal

pub returns-in_default-clause-answered : goal.returns-in_default-clause-answered
returns-in_default-clause-answered g c st history serves =
    let told = c.show.ensures.answered history serves.stands in
    line_answered g.W.Write.contents st history told.0 c.args.line told.1 c.args.self.now.world c.show.new.self.world c.args.self.now.waiting c.show.new.self.waiting c.args.out.now c.show.new.out c.show.result
    c.in_default.not-Asks serves told.2 c.show.ensures.setting c.show.ensures.waiting told.3 told.4

pub returns-in-Asks-clause-answered : goal.returns-in-Asks-clause-answered
returns-in-Asks-clause-answered g c = rw (c.in-Asks.is) c.ask.ensures.answered

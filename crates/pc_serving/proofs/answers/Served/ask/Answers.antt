use Rattle.std.proofs.Common.{sym, ◌∙◌}
use Rattle.pc_serving.proofs.AnswerLaws.{event_answered}
use Rattle.pc_serving.proofs.answers.Served.ask.Goals as goal

pub returns-clause-answered : goal.returns-clause-answered
returns-clause-answered g c st history serves =
    event_answered g.W.Write.contents st history c.args.event.now c.step-reply.result c.session_of.result c.args.self.now.world c.step-reply.new.self c.tell.new.self.world c.args.self.now.waiting c.tell.new.self.waiting
    c.args.out.now c.tell.new.out c.tell.result serves (c.step-reply.ensures.follows history serves.stands) c.step-reply.ensures.setting (sym c.is_of_client.ensures ∙ c.if-not-is_of_client.false) c.session_of.ensures c.tell.ensures.world c.tell.ensures.left c.tell.ensures.told

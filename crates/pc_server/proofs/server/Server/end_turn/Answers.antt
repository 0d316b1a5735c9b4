use Rattle.std.proofs.Common.{length, subst, ◌∙◌, ◌≤◌, ◌+◌}
use Rattle.pc_kept_log.specs.Logs.{entries_of}
use Rattle.pc_model.specs.History.{log_of}
use Rattle.pc_turn.specs.Turns.{AreMarks}
use Rattle.pc_server.specs.Acts.{answers_of}
use Rattle.pc_server.proofs.ServerLaws.{same_ends, turn_ended, turn_keeps}
use Rattle.pc_server.proofs.server.Server.end_turn.Goals as goal

pub returns-clause-ends : goal.returns-clause-ends
returns-clause-ends g c = λ st gone turn at history stays.
    let written = g.L.LogDevice.written in
    let kept = g.L.LogDevice.kept in
    let contents = g.W.Write.contents in
    let log = c.log-kept.ensures.log ∙ stays.serves.stands.parts.log in
    let told = c.deref.ensures.value ∙ c.take_all-answers.ensures.all ∙ stays.waiting in
    let ends = same_ends written kept contents (entries_of c.log-kept.result.now) (log_of history) c.args.lag c.deref.result.now (answers_of turn) c.args.self.now.marks c.end_turn.new.marks c.args.log.now c.end_turn.new.log c.args.out.now c.end_turn.new.out c.end_turn.result log told c.end_turn.ensures.ends in
    let within = subst (λ l. AreMarks l c.end_turn.new.marks) log c.end_turn.ensures.within in
    (ends, turn_ended written kept contents st gone turn at history c.args.self.now c.take_all-answers.new.answers c.end_turn.new.marks c.args.log.now c.end_turn.new.log c.args.out.now c.end_turn.new.out c.end_turn.result c.args.lag c.requires.lag stays ends c.take_all-answers.ensures.none within)

pub returns-clause-all : goal.returns-clause-all
returns-clause-all g c = λ whole.
    subst (λ l. length l ≤ c.end_turn.new.marks.kept + c.args.lag) c.log-kept.ensures.log
    (turn_keeps g.L.LogDevice.written g.L.LogDevice.kept g.W.Write.contents (entries_of c.log-kept.result.now) c.deref.result.now c.args.self.now.marks c.end_turn.new.marks c.args.log.now c.end_turn.new.log c.args.out.now c.end_turn.new.out c.end_turn.result c.args.lag c.end_turn.ensures.ends whole)

use Rattle.std.proofs.Common.{inl, inr, subst}
use Rattle.pc_model.specs.History.{log_of}
use Rattle.pc_turn.specs.Turns.{TurnEnds}
use Rattle.pc_server.specs.Acts.{answers_of}
use Rattle.pc_server.proofs.ServiceLaws.{answers_cut, log_cut, turn_whole}
use Rattle.pc_server.proofs.service.Service.end_with.Goals as goal

pub returns-in-Whole : goal.returns-in-Whole
returns-in-Whole g c = record {
  ended = λ st log out gone turn at history holds.
      let ends = c.end_turn.ensures.ends st gone turn at history holds.stays in
      turn_whole g.L.LogDevice.written g.L.LogDevice.kept g.W.Write.contents log out st gone turn at history c.args.self.now c.end_turn.new.self c.end_turn.new.log c.end_turn.new.out c.args.lag holds
      (subst (TurnEnds g.L.LogDevice.written g.L.LogDevice.kept g.W.Write.contents (log_of history) c.args.lag (answers_of turn) c.args.self.now.server.marks c.end_turn.new.self.marks c.args.self.now.log c.end_turn.new.log c.args.self.now.out c.end_turn.new.out) c.in-Whole.is ends.0)
      (ends.1 c.in-Whole.is);
  all = c.end_turn.ensures.all c.in-Whole.is;
  same = c.end_turn.ensures.same;
}

pub returns-in-LogCut : goal.returns-in-LogCut
returns-in-LogCut g c = record {
  ended = λ st log out gone turn at history holds.
      let ends = c.end_turn.ensures.ends st gone turn at history holds.stays in
      inl (log_cut g.L.LogDevice.written g.L.LogDevice.kept g.W.Write.contents log out st gone turn at history c.args.self.now c.end_turn.new.self.marks c.end_turn.new.log c.end_turn.new.out c.args.lag holds
      (subst (TurnEnds g.L.LogDevice.written g.L.LogDevice.kept g.W.Write.contents (log_of history) c.args.lag (answers_of turn) c.args.self.now.server.marks c.end_turn.new.self.marks c.args.self.now.log c.end_turn.new.log c.args.self.now.out c.end_turn.new.out) c.in-LogCut.is ends.0));
  all = tt;
  same = c.end_turn.ensures.same;
}

pub returns-in-AnswersCut : goal.returns-in-AnswersCut
returns-in-AnswersCut g c = record {
  ended = λ st log out gone turn at history holds.
      let ends = c.end_turn.ensures.ends st gone turn at history holds.stays in
      inr (answers_cut g.L.LogDevice.written g.L.LogDevice.kept g.W.Write.contents log out st gone turn at history c.args.self.now c.end_turn.new.self.marks c.end_turn.new.log c.end_turn.new.out c.args.lag c.requires.lag holds
      (subst (TurnEnds g.L.LogDevice.written g.L.LogDevice.kept g.W.Write.contents (log_of history) c.args.lag (answers_of turn) c.args.self.now.server.marks c.end_turn.new.self.marks c.args.self.now.log c.end_turn.new.log c.args.self.now.out c.end_turn.new.out) c.in-AnswersCut.is ends.0));
  all = tt;
  same = c.end_turn.ensures.same;
}

use Rattle.std.proofs.Common.{ℕ, [], sym, ap, subst, ◌∙◌}
use Rattle.pc_shared.specs.Sitters.{Sitter}
use Rattle.pc_workers.specs.Attempts.{IsStuck}
use Rattle.pc_workers.specs.Clients.{wrote, session_writes}
use Rattle.pc_workers.specs.Courses.{IsOpAnswered}
use Rattle.pc_workers.proofs.AskedLaws.{asked_made, asked_dies, on_err}
use Rattle.pc_workers.proofs.AttemptLaws.{made_next, next_dies, next_is_refused}
use Rattle.pc_workers.proofs.ClientJobs.{then_committed, wrote_next}
use Rattle.pc_workers.proofs.clients.make_all.Goals as goal

pub loop-op-preserved : goal.loop-op-preserved
loop-op-preserved g c =
    let n = g.N.StoreName.name.setting in
    record {
      made =
          made_next n c.args.session.now.number c.args.ops.now c.loop-op.op-index c.op-item.result c.loop-op-test.true c.op-item.is c.args.session.now.seen c.loop-op.session.seen c.loop-op.invariant.made c.make.new.session.seen
          (asked_made n c.args.session.now.number c.loop-op.session.seen c.make.new.session.seen c.op-item.result c.in_ok-answer.answer c.in_default.not-Died
          (subst (λ (s : ℕ). IsOpAnswered n s c.op-item.result c.in_ok-answer.answer c.loop-op.session.seen c.make.new.session.seen) c.loop-op.invariant.committed.number c.in_ok-answer.ensures.asked));
      committed = then_committed [] [] c.args.session.now c.loop-op.session c.make.new.session c.loop-op.invariant.committed c.make.ensures.receipts;
      wrote =
          c.in_ok-answer.ensures.wrote c.in_default.not-Died ∙ ap (λ writes. wrote writes c.op-item.result) c.loop-op.invariant.wrote
          ∙ sym (wrote_next (session_writes c.args.session.now) c.args.ops.now c.loop-op.op-index c.op-item.result c.loop-op-test.true c.op-item.is);
    }

pub returns-in_err-answer-clause-stuck : goal.returns-in_err-answer-clause-stuck
returns-in_err-answer-clause-stuck g c =
    let st = g.N.StoreName.name.setting in
    let s = c.args.session.now.number in
    on_err (IsStuck st s c.args.ops.now c.args.session.now.seen c.make.new.session.seen) c.from_residual.result
    (next_is_refused st s c.args.ops.now c.loop-op.op-index c.op-item.result c.loop-op-test.true c.op-item.is c.args.session.now.seen c.loop-op.session.seen c.loop-op.invariant.made
    c.loop-op.session.number c.loop-op.invariant.committed.number c.make.new.session.seen (ap (λ (x : Sitter). x.seen) c.in_err-answer.ensures.same) _ c.in_err-answer.ensures.refused)

pub returns-in-Died-clause-made : goal.returns-in-Died-clause-made
returns-in-Died-clause-made g c =
    let st = g.N.StoreName.name.setting in
    let s = c.args.session.now.number in
    next_dies st s c.args.ops.now c.loop-op.op-index c.op-item.result c.loop-op-test.true c.op-item.is c.args.session.now.seen c.loop-op.session.seen c.loop-op.invariant.made c.make.new.session.seen
    (asked_dies st s c.loop-op.session.seen c.make.new.session.seen c.op-item.result c.in_ok-answer.answer c.in-Died.is
    (subst (λ (n : ℕ). IsOpAnswered st n c.op-item.result c.in_ok-answer.answer c.loop-op.session.seen c.make.new.session.seen) c.loop-op.invariant.committed.number c.in_ok-answer.ensures.asked))

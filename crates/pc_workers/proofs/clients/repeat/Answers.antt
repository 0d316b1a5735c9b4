use Rattle.std.proofs.Common.{[], ℕ, Option, ◌∙◌, refl, subst, arith, rules}
use Rattle.std.specs.Prelude.{is_some}
use Rattle.pc_model.proofs.BeginningLaws.{beginning_self, beginning_trans}
use Rattle.pc_workers.specs.Clients.{done_by, wrote_all}
use Rattle.pc_workers.specs.Waits.{HasWaited}
use Rattle.pc_workers.proofs.AttemptLaws.{one_more_death, ended_at, always_died}
use Rattle.pc_workers.proofs.ClientJobs.{then_committed}
use Rattle.pc_workers.proofs.WaitLaws.{keeps_then}
use Rattle.pc_workers.proofs.clients.repeat.Goals as goal

pub returns-in_default : goal.returns-in_default
returns-in_default g c =
    record {
      receipts = then_committed [] (done_by c.attempt.result (wrote_all [] c.args.ops.now)) c.args.session.now c.loop.session c.attempt.new.session c.loop.invariant.committed c.attempt.ensures.receipts;
      begins = beginning_trans c.args.session.now.seen c.loop.session.seen c.attempt.new.session.seen c.loop.invariant.begins c.attempt.ensures.begins;
      repeated = λ idle.
          ended_at g.N.StoreName.name.setting c.args.session.now.number c.args.ops.now c.args.session.now.seen c.loop.session.seen c.attempt.new.session.seen c.loop.session.number c.loop.invariant.committed.number
          c.attempt.result c.attempt.ensures.attempt c.in_default.not-Died c.loop.counter (omega (arith, c.loop-test.true)) (c.loop.invariant.died idle) idle;
      lag = c.attempt.ensures.lag ∙ c.loop.invariant.lag;
      mark = keeps_then _ _ _ _ c.loop.invariant.mark c.attempt.ensures.mark;
      held = λ committed. subst (λ (o : Option ℕ). HasWaited g.N.StoreName.out g.N.StoreName.name.setting o (is_some c.attempt.new.patience.log_end) c.attempt.new.session) c.loop.invariant.lag (c.attempt.ensures.held committed);
    }

pub loop-init : goal.loop-init
loop-init g c = record { committed = search rules; begins = beginning_self c.args.session.now.seen; lag = refl; mark = search rules; died = search rules }

pub loop-preserved : goal.loop-preserved
loop-preserved g c =
    record {
      begins = beginning_trans c.args.session.now.seen c.loop.session.seen c.attempt.new.session.seen c.loop.invariant.begins c.attempt.ensures.begins;
      lag = c.in-Died.ensures.lag ∙ c.loop.invariant.lag;
      mark = keeps_then _ _ _ _ c.loop.invariant.mark c.in-Died.ensures.mark;
      committed = then_committed [] [] c.args.session.now c.loop.session c.attempt.new.session c.loop.invariant.committed c.in-Died.ensures.receipts;
      died = λ idle.
          one_more_death g.N.StoreName.name.setting c.args.session.now.number c.args.ops.now c.args.session.now.seen c.loop.session.seen c.attempt.new.session.seen c.loop.session.number c.loop.invariant.committed.number
          c.attempt.result c.attempt.ensures.attempt c.in-Died.is c.loop.counter (c.loop.invariant.died idle) idle;
    }

pub returns-clause-repeated : goal.returns-clause-repeated
returns-clause-repeated g c = λ idle.
    always_died g.N.StoreName.name.setting c.args.session.now.number c.args.ops.now c.loop.counter c.args.session.now.seen c.loop.session.seen (omega (arith, c.loop-test.false, c.loop.auto.counter-end)) (c.loop.invariant.died idle)

use Rattle.std.proofs.Common.{◌≡◌, ◌+◌, ◌≤◌, [], rules, refl, sym, ap, subst, ◌∙◌, arith}
use Rattle.std.specs.Prelude.{IsTrue, is_some}
use Rattle.pc_types.specs.declared.limits.TheConstants.{MOST_POINTS}
use Rattle.pc_model.specs.History.{History}
use Rattle.pc_workers.specs.Checkpointing.{HasCycled}
use Rattle.pc_workers.proofs.WholeCycles.{cycled_on}
use Rattle.pc_threads.specs.Files.{RefusedBy}
use Rattle.pc_threads.proofs.PointLaws.{more_points, points_before}
use Rattle.pc_threads.proofs.points.take_points.Goals as goal

pub loop-others-init : goal.loop-others-init
loop-others-init g c = record { there = refl; refusals = λ name why is. is; rest = c.requires.rest; cycles = λ first had. had; written = λ first had. had }

pub loop-others-preserved : goal.loop-others-preserved
loop-others-preserved g c =
    let st = g.N.StoreName.name.setting in
    let old = c.loop-others in
    let seat : History = c.in-Ok-take.later.at_store in
    let one : HasCycled st 1 old.checkpointer.at_store seat = subst (λ (h : History). HasCycled st 1 h seat) c.await_commits.ensures.seat c.in-Ok-take.ensures.cycle in
    record {
      there = c.in-Ok-take.ensures.there ∙ ap is_some c.await_commits.ensures.folder ∙ old.invariant.there;
      refusals = λ name why is. old.invariant.refusals name why (subst (λ folder. RefusedBy g.D.NewFiles.refuses folder name why) c.await_commits.ensures.folder (c.in-Ok-take.ensures.refusals name why is));
      rest = one.in_phase;
      cycles = λ first had. cycled_on st old.others first old.checkpointer.at_store seat (old.invariant.cycles first had) one;
      written = search rules;
    }

pub returns-in-Err-clause-ended : goal.returns-in-Err-clause-ended
returns-in-Err-clause-ended g c cycled =
    let st = g.N.StoreName.name.setting in
    let old = c.loop-others in
    let seat : History = c.await_commits.new.self.at_store in
    let before : HasCycled st old.others [] seat = subst (HasCycled st old.others []) (sym c.await_commits.ensures.seat) (old.invariant.cycles [] cycled) in
    let there : is_some c.await_commits.new.self.folder ≡ is_some c.args.checkpointer.folder = ap is_some c.await_commits.ensures.folder ∙ old.invariant.there in
    let next : old.others + 1 ≡ c.in-Ok.point = search rules in
    let few : c.in-Ok.point ≤ MOST_POINTS = search rules in
    let refused = RefusedBy g.D.NewFiles.refuses c.await_commits.new.self.folder in
    points_before (RefusedBy g.D.NewFiles.refuses c.args.checkpointer.folder) refused st _ c.args.last c.in-Err.fault
    (λ name why is. old.invariant.refusals name why (subst (λ folder. RefusedBy g.D.NewFiles.refuses folder name why) c.await_commits.ensures.folder is))
    (more_points refused st _ _ c.in-Ok.point c.args.last c.in-Err.fault (subst IsTrue there) (omega (arith, next, c.loop-others-test.true)) (c.in-Err.ensures.ended old.others next few before))

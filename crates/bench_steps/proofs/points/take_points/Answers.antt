use Rattle.std.proofs.Common.{◌≤◌, ◌+◌, [], ◌∷◌, All, length, ap, sym, subst, ◌∙◌}
use Rattle.std.proofs.lemmas.List.{length-append}
use Rattle.std.proofs.lemmas.List.Elements.{All-push}
use Rattle.bench_steps.specs.declared.points.TimedCycle.{TimedCycle}
use Rattle.bench_steps.proofs.points.take_points.Goals as goal

pub loop-preserved : goal.loop-preserved
loop-preserved g c =
    let xs = c.loop.done.items in
    let x = c.in_ok-take_point.field-0 in
    let pushed = c.in_ok-push.ensures.items in
    record {
      cycles = ap length pushed ∙ length-append xs (x ∷ []) ∙ ap (λ n. n + 1) c.loop.invariant.cycles;
      taken = subst (All (λ (cycle : TimedCycle). cycle.taken ≤ c.args.cycles.keys)) (sym pushed) (All-push (λ (cycle : TimedCycle). cycle.taken ≤ c.args.cycles.keys) xs x c.loop.invariant.taken c.in_ok-take_point.ensures);
    }

use Rattle.std.proofs.Common.{length, ap, ◌∙◌, arith}
use Rattle.pc_collapse.specs.declared.rule.Hand.{Hand}
use Rattle.pc_collapse.specs.Worth.{IsCauseFor}
use Rattle.pc_collapse.specs.Bags.{IsBagDone}
use Rattle.pc_collapse.proofs.BagMoves.{merges}
use Rattle.pc_collapse.proofs.Gathered.{first_of, others_of, either, kept_on}
use Rattle.pc_collapse.proofs.bag.gather.Goals as goal

pub absorb-requires-clause-rule : goal.absorb-requires-clause-rule
absorb-requires-clause-rule g c =
    let done = first_of (IsBagDone g.G.Given.files c.args.bag.now) _ _ _ c.loop-collapser.invariant.3 c.in-Some.ensures.steps.0 in
    merges _ _ _ _ _ (ap (λ (h : Hand). h.held) done.0.1)

pub loop-collapser-preserved : goal.loop-collapser-preserved
loop-collapser-preserved g c =
    let inv = c.loop-collapser.invariant in
    let done = first_of (IsBagDone g.G.Given.files c.args.bag.now) _ _ _ inv.3 c.in-Some.ensures.steps.0 in
    let parts = ap (λ (h : Hand). h.parts) c.absorb.ensures.rule in
    let one = ap (λ (h : Hand). h.parts) done.0.1 in
    let n = ap (λ l. length l) c.in-Some.ensures.steps.0 in
    let before = inv.2 in (
      (c.absorb.ensures.queue.0 ∙ inv.0.0, c.absorb.ensures.queue.2 ∙ inv.0.1),
      ap (λ (h : Hand). h.held) c.absorb.ensures.rule ∙ inv.1,
      omega (arith, parts, one, n, before),
      others_of (IsBagDone g.G.Given.files c.args.bag.now) _ _ _ inv.3 c.in-Some.ensures.steps.0,
      (let r = c.or-refused.ensures in rw r (either (IsCauseFor g.G.Given.files) _ _ inv.4 done.1)),
      kept_on c.loop-collapser.refused c.or-refused.result _ _ _ c.in-Some.collapser inv.5 c.in-Some.ensures.steps.0 c.or-refused.ensures,
    )

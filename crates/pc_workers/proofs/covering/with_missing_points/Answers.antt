use Rattle.std.proofs.Common.{◌≡◌, rules, ◌+◌, sym, ap, ◌∙◌, arith}
use Rattle.pc_types.specs.declared.Refusal.TheVariants.{OutOfMemory}
use Rattle.pc_workers.specs.Collapsing.{has_point}
use Rattle.pc_workers.proofs.CoverLaws.{one_taken, none_taken}
use Rattle.pc_workers.proofs.Cycling.{of_refusal}
use Rattle.pc_workers.proofs.WholeCycles.{only_memory}
use Rattle.pc_workers.proofs.covering.with_missing_points.Goals.{then-not-has_point+in_ok-take_part+in_ok-push, else-not-has_point}
use Rattle.pc_workers.proofs.covering.with_missing_points.Goals as goal

pub loop-others-preserved : goal.loop-others-preserved
loop-others-preserved g c =
    let n = c.loop-others.others in
    let points = c.args.points in
    let old = c.loop-others.tickets.items in
    let i = c.loop-others.invariant in
    elim c.if-not-has_point.branch [
      | then-not-has_point+in_ok-take_part+in_ok-push w ↦
          let t = one_taken points n old c.if-not-has_point.tickets.items w.in_ok-take_part.field-0 (search rules) w.in_ok-take_part.ensures.point
          (ap (λ tickets. tickets.items) w.tickets-is ∙ w.in_ok-push.ensures.items) (i.0, i.1) in
          (t.0, t.1, w.seat-is ∙ (w.take_part.ensures.same ∙ i.2))
      | else-not-has_point w ↦
          let t = none_taken points n old c.if-not-has_point.tickets.items
          (ap (λ files. has_point files (n + 1)) (sym c.deref.ensures.value) ∙ sym c.has_point.ensures ∙ search rules) (ap (λ tickets. tickets.items) w.tickets-is) (i.0, i.1) in
          (t.0, t.1, w.seat-is ∙ i.2)
    ]

pub returns-in_err-take_part-clause-memory : goal.returns-in_err-take_part-clause-memory
returns-in_err-take_part-clause-memory g c =
    let st = g.N.StoreName.name.setting in
    let seen = c.args.seat.now in
    of_refusal (λ why. why ≡ OutOfMemory) c.from_residual.result _ c.from_residual.ensures.1
    (only_memory st c.loop-others.seat seen c.args.points (c.loop-others.others + 1) _ c.loop-others.invariant.2 c.requires.legal c.requires.done (omega arith) (search rules) c.in_err-take_part.ensures.refused)

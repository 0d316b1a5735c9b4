use Rattle.std.proofs.Common.{map, Some, Ok, refl, ap, sym, ◌∙◌}
use Rattle.pc_model.specs.Database.{Database}
use Rattle.pc_recover.specs.Recovery.{recovery_of}
use Rattle.pc_points.proofs.PointSteps.{refused, same_parts, state_there, state_to_come}
use Rattle.pc_points.proofs.states.point_state.Goals as goal

pub returns-in-Err-recover-clause-rules : goal.returns-in-Err-recover-clause-rules
returns-in-Err-recover-clause-rules c = λ other.
    refused c.args.point c.args.base.now (map (λ part. part.now) c.args.parts.now) c.args.log.now c.in-Err-recover.why
    (same_parts c.args.base.now _ _ c.deref.result.now c.in-Ok.parts.items _ c.deref.ensures.value c.in-Ok.ensures.kept (c.in-Err-recover.ensures.rules other))

pub returns-then-eq-clause-rules : goal.returns-then-eq-clause-rules
returns-then-eq-clause-rules c =
    state_there c.args.point c.args.base.now (map (λ part. part.now) c.args.parts.now) c.args.log.now c.in-Ok-recover.recovered.run (recovery_of c.in-Ok-recover.recovered) c.in-Ok-recover.ensures.run
    (same_parts c.args.base.now _ _ c.deref.result.now c.in-Ok.parts.items _ c.deref.ensures.value c.in-Ok.ensures.kept c.in-Ok-recover.ensures.rules)
    (sym c.eq.ensures ∙ c.if-eq.true)

pub returns-in-Ok-Some-clause-rules : goal.returns-in-Ok-Some-clause-rules
returns-in-Ok-Some-clause-rules c =
    state_to_come c.args.point c.args.base.now (map (λ part. part.now) c.args.parts.now) c.args.log.now c.in-Ok-recover.recovered.run (recovery_of c.in-Ok-recover.recovered) c.in-Ok-recover.ensures.run
    (same_parts c.args.base.now _ _ c.deref.result.now c.in-Ok.parts.items _ c.deref.ensures.value c.in-Ok.ensures.kept c.in-Ok-recover.ensures.rules)
    c.in-Ok-recover.recovered.point c.in_ok-database.database _ refl c.in_ok-database.ensures (sym c.eq.ensures ∙ c.if-eq.false)
    ((rw c.in-Ok-Some.field-0-is at c.in-Ok-Some.ensures) ∙ ap (λ (db : Database). Ok (Some db)) (sym c.in_ok-into_pairs-in-Ok-Some.ensures.pairs))

pub returns-in-Ok-None-clause-rules : goal.returns-in-Ok-None-clause-rules
returns-in-Ok-None-clause-rules c =
    state_to_come c.args.point c.args.base.now (map (λ part. part.now) c.args.parts.now) c.args.log.now c.in-Ok-recover.recovered.run (recovery_of c.in-Ok-recover.recovered) c.in-Ok-recover.ensures.run
    (same_parts c.args.base.now _ _ c.deref.result.now c.in-Ok.parts.items _ c.deref.ensures.value c.in-Ok.ensures.kept c.in-Ok-recover.ensures.rules)
    c.in-Ok-recover.recovered.point c.in_ok-database.database _ refl c.in_ok-database.ensures (sym c.eq.ensures ∙ c.if-eq.false)
    (rw c.in-Ok-None.field-0-is at c.in-Ok-None.ensures)

pub returns-clause-rules : goal.returns-clause-rules
returns-clause-rules c = λ other.
    state_to_come c.args.point c.args.base.now (map (λ part. part.now) c.args.parts.now) c.args.log.now c.in-Ok-recover.recovered.run (recovery_of c.in-Ok-recover.recovered) c.in-Ok-recover.ensures.run
    (same_parts c.args.base.now _ _ c.deref.result.now c.in-Ok.parts.items _ c.deref.ensures.value c.in-Ok.ensures.kept c.in-Ok-recover.ensures.rules)
    c.in-Ok-recover.recovered.point c.in_ok-database.database _ refl c.in_ok-database.ensures (sym c.eq.ensures ∙ c.if-eq.false)
    (c.in-Err-replay_log.ensures other)

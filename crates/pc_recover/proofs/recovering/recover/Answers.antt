use Rattle.std.proofs.Common.{map, ap, ◌∙◌}
use Rattle.pc_model.specs.Database.{database_of}
use Rattle.pc_recover.specs.Recovery.{recovery, unused_from}
use Rattle.pc_recover.specs.Replaying.{replay_by}
use Rattle.pc_recover.proofs.Summing.{refused_with, memory_ran_out, base_refused, state_refused, log_refused, all_recovered}
use Rattle.pc_recover.proofs.recovering.recover.Goals as goal

pub returns-in_err-base-clause-rules : goal.returns-in_err-base-clause-rules
returns-in_err-base-clause-rules c =
    let parts = map (λ part. part.now) c.args.parts.now in
    refused_with c.in_err-base.field-0.0 c.from_residual.result (recovery c.args.base.now parts c.args.log.now) c.from_residual.ensures
    (λ other. base_refused c.args.base.now parts c.args.log.now c.in_err-base.field-0.0 (c.in_err-base.ensures.exact other))

pub returns-in_err-skipped-clause-rules : goal.returns-in_err-skipped-clause-rules
returns-in_err-skipped-clause-rules c = memory_ran_out c.from_residual-in_err-skipped.result (recovery c.args.base.now (map (λ part. part.now) c.args.parts.now) c.args.log.now) c.from_residual-in_err-skipped.ensures

pub returns-in_err-state-clause-rules : goal.returns-in_err-state-clause-rules
returns-in_err-state-clause-rules c =
    let parts = map (λ part. part.now) c.args.parts.now in
    refused_with c.in_err-state.field-0.0 c.from_residual-in_err-state.result (recovery c.args.base.now parts c.args.log.now) c.from_residual-in_err-state.ensures
    (λ other. state_refused c.args.base.now parts c.args.log.now c.in_ok-base.base c.in_ok-base.ensures.exact c.run-run.result c.run-run.ensures c.in_ok-files.files.items c.in_ok-files.ensures.files c.point.result c.point.ensures c.deref.result.now c.deref.ensures.value c.in_ok-reach.reach c.in_ok-reach.ensures c.in_err-state.field-0.0 (c.in_err-state.ensures other))

pub returns-in_err-database-2-clause-rules : goal.returns-in_err-database-2-clause-rules
returns-in_err-database-2-clause-rules c =
    let parts = map (λ part. part.now) c.args.parts.now in
    refused_with c.in_err-database-2.field-0.0 c.from_residual-in_err-database-2.result (recovery c.args.base.now parts c.args.log.now) c.from_residual-in_err-database-2.ensures
    (λ other. log_refused c.args.base.now parts c.args.log.now c.in_ok-base.base c.in_ok-base.ensures.exact c.run-run.result c.run-run.ensures c.in_ok-files.files.items c.in_ok-files.ensures.files c.point.result c.point.ensures c.deref.result.now c.deref.ensures.value c.in_ok-reach.reach c.in_ok-reach.ensures c.in_ok-state.state c.in_ok-state.ensures c.in_ok-database.database c.in_err-database-2.field-0.0 (c.in_err-database-2.ensures other))

pub returns-clause-rules : goal.returns-clause-rules
returns-clause-rules c =
    all_recovered c.args.base.now (map (λ part. part.now) c.args.parts.now) c.args.log.now c.in_ok-base.base c.in_ok-base.ensures.exact c.run-run.result c.run-run.ensures c.in_ok-files.files.items c.in_ok-files.ensures.files c.point.result c.point.ensures c.deref.result.now c.deref.ensures.value c.in_ok-reach.reach c.in_ok-reach.ensures c.in_ok-state.state c.in_ok-state.ensures
    c.in_ok-database.database (c.in_ok-database.ensures ∙ c.into_pairs.ensures.pairs) (replay_by c.in_ok-database-2.field-0) c.in_ok-database-2.ensures c.in_ok-skipped.skipped.items (c.in_ok-skipped.ensures ∙ ap (unused_from 0 c.in_ok-reach.reach.point c.in_ok-reach.reach.missing) c.deref-2.ensures.value)
    (database_of c.in_ok-into_pairs.field-0.items) c.in_ok-into_pairs.ensures.pairs

pub returns-clause-run : goal.returns-clause-run
returns-clause-run c = (c.in_ok-base.base, c.in_ok-base.ensures.exact, c.run-run.ensures)

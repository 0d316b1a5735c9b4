use Rattle.std.proofs.Common.{sym, ◌∙◌}
use Rattle.pc_model.specs.Log.{log_after_point}
use Rattle.pc_log.specs.Orders.{no_token}
use Rattle.pc_log.specs.Reading.{all_at}
use Rattle.pc_log.proofs.TurnLaws.{entry_shorter, is_empty}
use Rattle.pc_points.proofs.EntrySteps.{fault_there, none_there, skips_entry, skips_none, skips_to_token}
use Rattle.pc_points.proofs.replaying.skip_to_token.Goals as goal

pub returns-then-is_token_of-clause-found : goal.returns-then-is_token_of-clause-found
returns-then-is_token_of-clause-found c =
    rw c.after-last.ensures
    (skips_to_token c.args.format c.loop-rest.last c.loop-rest.rest.now c.in-Ok.entry c.in-Ok.after.now c.in-Ok.ensures c.args.point _ c.loop-rest.invariant (sym c.is_token_of.ensures ∙ c.if-is_token_of.true))

pub loop-rest-smaller-else-is_token_of : goal.loop-rest-smaller-else-is_token_of
loop-rest-smaller-else-is_token_of c = entry_shorter c.args.format c.loop-rest.last c.loop-rest.rest.now c.in-Ok.entry c.in-Ok.after.now c.in-Ok.ensures

pub loop-rest-preserved-else-is_token_of : goal.loop-rest-preserved-else-is_token_of
loop-rest-preserved-else-is_token_of c =
    rw c.after-last.ensures
    (skips_entry c.args.format c.loop-rest.last c.loop-rest.rest.now c.in-Ok.entry c.in-Ok.after.now c.in-Ok.ensures c.args.point (log_after_point c.args.point (all_at c.args.format no_token c.args.bytes.now).entries) c.loop-rest.invariant (sym c.is_token_of.ensures ∙ c.if-is_token_of.false))

pub loop-rest-smaller : goal.loop-rest-smaller
loop-rest-smaller c = entry_shorter c.args.format c.loop-rest.last c.loop-rest.rest.now c.in-Ok.entry c.in-Ok.after.now c.in-Ok.ensures

pub loop-rest-preserved : goal.loop-rest-preserved
loop-rest-preserved c =
    rw c.after-last.ensures
    (skips_entry c.args.format c.loop-rest.last c.loop-rest.rest.now c.in-Ok.entry c.in-Ok.after.now c.in-Ok.ensures c.args.point (log_after_point c.args.point (all_at c.args.format no_token c.args.bytes.now).entries) c.loop-rest.invariant (sym c.is_token_of.ensures ∙ c.if-is_token_of.false))

pub returns-in-Err-clause-found : goal.returns-in-Err-clause-found
returns-in-Err-clause-found c =
    skips_none c.args.format c.loop-rest.last c.loop-rest.rest.now c.args.point (log_after_point c.args.point (all_at c.args.format no_token c.args.bytes.now).entries) c.loop-rest.invariant
    (fault_there c.args.format c.loop-rest.last c.loop-rest.rest.now c.in-Err.fault (c.in-Err.ensures (c.is_for_memory.ensures c.if-is_for_memory.false)))

pub returns-clause-found : goal.returns-clause-found
returns-clause-found c =
    skips_none c.args.format c.loop-rest.last c.loop-rest.rest.now c.args.point (log_after_point c.args.point (all_at c.args.format no_token c.args.bytes.now).entries) c.loop-rest.invariant
    (none_there c.args.format c.loop-rest.last c.loop-rest.rest.now (is_empty c.is_empty.result c.loop-rest.rest.now c.is_empty.ensures c.loop-rest-test.false))

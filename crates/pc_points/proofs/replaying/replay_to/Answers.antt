use Rattle.std.proofs.Common.{Ok, ap, sym, ◌∙◌}
use Rattle.pc_log.specs.Reading.{all_at}
use Rattle.pc_log.proofs.TurnLaws.{entry_shorter, is_empty}
use Rattle.pc_points.specs.Points.{state_before}
use Rattle.pc_points.proofs.EntrySteps.{applies_entry, applies_none, comes_to_token, fault_there, none_there}
use Rattle.pc_points.proofs.replaying.replay_to.Goals as goal

pub returns-then-is_token_of : goal.returns-then-is_token_of
returns-then-is_token_of c =
    ap Ok (comes_to_token c.args.format c.loop-rest.last c.loop-rest.rest.now c.in-Ok.entry c.in-Ok.after.now c.in-Ok.ensures c.args.point c.loop-rest.database _ c.loop-rest.invariant (sym c.is_token_of.ensures ∙ c.if-is_token_of.true))

pub loop-rest-smaller : goal.loop-rest-smaller
loop-rest-smaller c = entry_shorter c.args.format c.loop-rest.last c.loop-rest.rest.now c.in-Ok.entry c.in-Ok.after.now c.in-Ok.ensures

pub loop-rest-preserved : goal.loop-rest-preserved
loop-rest-preserved c =
    rw c.after-last.ensures
    (applies_entry c.args.format c.loop-rest.last c.loop-rest.rest.now c.in-Ok.entry c.in-Ok.after.now c.in-Ok.ensures c.args.point c.loop-rest.database c.in_ok-database-in-Ok.database (state_before c.args.point c.args.database (all_at c.args.format c.args.last c.args.bytes.now).entries) c.loop-rest.invariant (sym c.is_token_of.ensures ∙ c.if-is_token_of.false) c.in_ok-database-in-Ok.ensures)

pub returns-in-Err : goal.returns-in-Err
returns-in-Err c =
    ap Ok (applies_none c.args.format c.loop-rest.last c.loop-rest.rest.now c.args.point c.loop-rest.database (state_before c.args.point c.args.database (all_at c.args.format c.args.last c.args.bytes.now).entries) c.loop-rest.invariant
    (fault_there c.args.format c.loop-rest.last c.loop-rest.rest.now c.in-Err.fault (c.in-Err.ensures (c.is_for_memory.ensures c.if-is_for_memory.false))))

pub returns : goal.returns
returns c =
    ap Ok (applies_none c.args.format c.loop-rest.last c.loop-rest.rest.now c.args.point c.loop-rest.database (state_before c.args.point c.args.database (all_at c.args.format c.args.last c.args.bytes.now).entries) c.loop-rest.invariant
    (none_there c.args.format c.loop-rest.last c.loop-rest.rest.now (is_empty c.is_empty.result c.loop-rest.rest.now c.is_empty.ensures c.loop-rest-test.false)))

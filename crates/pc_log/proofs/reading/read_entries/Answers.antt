use Rattle.std.proofs.Common.{ap}
use Rattle.pc_log.specs.Orders.{no_token}
use Rattle.pc_log.proofs.TurnLaws.{entry_shorter, entry_goes_on, entry_stops, entries_done, not_empty, is_empty, read_as, stopped_gives}
use Rattle.pc_log.specs.Reading.{all_at}
use Rattle.pc_log.proofs.reading.read_entries.Goals as goal

pub loop-rest-smaller : goal.loop-rest-smaller
loop-rest-smaller c = entry_shorter c.args.format c.loop-rest.last c.loop-rest.rest.now c.in-Ok.entry c.in-Ok.after.now c.in-Ok.ensures

pub loop-rest-preserved : goal.loop-rest-preserved
loop-rest-preserved c =
    rw (c.in_ok-push-in-Ok.ensures.items, c.after-last.ensures) (entry_goes_on c.args.format c.loop-rest.entries.items c.loop-rest.last c.loop-rest.rest.now (all_at c.args.format no_token c.args.bytes.now) c.loop-rest.invariant c.in-Ok.entry c.in-Ok.after.now c.in-Ok.ensures)

pub returns-in-Err : goal.returns-in-Err
returns-in-Err c =
    stopped_gives c.args.run c.stopped.result c.in-Err.fault (all_at c.args.format no_token c.args.bytes.now) _ _ c.stopped.ensures.read c.stopped.ensures.memory
    (λ other. entry_stops c.args.format c.loop-rest.entries.items c.loop-rest.last c.loop-rest.rest.now (all_at c.args.format no_token c.args.bytes.now) c.loop-rest.invariant c.in-Err.fault (c.in-Err.ensures other) (not_empty c.is_empty.result c.loop-rest.rest.now c.is_empty.ensures c.loop-rest-test.true))

pub returns : goal.returns
returns c =
    ap (read_as c.args.run) (entries_done c.args.format c.loop-rest.entries.items c.loop-rest.last c.loop-rest.rest.now (all_at c.args.format no_token c.args.bytes.now) c.loop-rest.invariant (is_empty c.is_empty.result c.loop-rest.rest.now c.is_empty.ensures c.loop-rest-test.false))

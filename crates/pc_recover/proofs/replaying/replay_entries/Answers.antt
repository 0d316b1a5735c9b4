use Rattle.std.proofs.Common.{arith, ap, refl, sym, ◌∙◌, length, Ok, Some}
use Rattle.pc_log.specs.Orders.{no_token}
use Rattle.pc_log.proofs.TurnLaws.{entry_shorter, not_empty, is_empty}
use Rattle.pc_log.specs.Reading.{all_at}
use Rattle.pc_recover.specs.Replaying.{found_replay}
use Rattle.pc_recover.proofs.EntryReplays.{all_to_come, replay_goes_on, replay_stops, replay_done, rest_goes_on, rest_stops, rest_done, stopped_gives, stopped_rest}
use Rattle.pc_recover.proofs.replaying.replay_entries.Goals as goal

pub loop-rest-init : goal.loop-rest-init
loop-rest-init c = record {
  replay = rw c.none-last.ensures (all_to_come c.eq-is_behind.result c.args.point c.args.database (all_at c.args.format no_token c.args.bytes.now) c.eq-is_behind.ensures);
  left = rw c.none-last.ensures refl;
  counted = omega arith;
}

pub loop-rest-smaller : goal.loop-rest-smaller
loop-rest-smaller c = entry_shorter c.args.format c.loop-rest.last c.loop-rest.rest.now c.in-Ok.entry c.in-Ok.after.now c.in-Ok.ensures

pub loop-rest-preserved : goal.loop-rest-preserved
loop-rest-preserved c =
    let shorter = entry_shorter c.args.format c.loop-rest.last c.loop-rest.rest.now c.in-Ok.entry c.in-Ok.after.now c.in-Ok.ensures in
    let total = found_replay c.args.point c.args.database (all_at c.args.format no_token c.args.bytes.now) in
    record {
      replay = rw c.after-last.ensures (replay_goes_on c.args.format c.loop-rest.is_behind c.args.point c.loop-rest.database c.loop-rest.entries c.loop-rest.last c.loop-rest.rest.now total c.loop-rest.invariant.replay c.in-Ok.entry c.in-Ok.after.now c.in_ok-next-in-Ok.next c.in_ok-next-in-Ok.is_next_behind c.in-Ok.ensures c.in_ok-next-in-Ok.ensures.applied c.in_ok-next-in-Ok.ensures.token);
      left = rw c.after-last.ensures (rest_goes_on c.args.format c.loop-rest.last c.loop-rest.rest.now c.in-Ok.entry c.in-Ok.after.now c.in-Ok.ensures ∙ c.loop-rest.invariant.left);
      counted = omega (arith, shorter, c.loop-rest.invariant.counted);
    }

pub returns-in-Err-clause-read : goal.returns-in-Err-clause-read
returns-in-Err-clause-read c =
    let total = found_replay c.args.point c.args.database (all_at c.args.format no_token c.args.bytes.now) in
    stopped_gives c.stopped.result c.in-Err.fault total (record { pairs = c.loop-rest.database; entries = c.loop-rest.entries; fault = Some c.in-Err.fault }) c.stopped.ensures.read c.stopped.ensures.memory
    (λ other. replay_stops c.args.format c.loop-rest.is_behind c.args.point c.loop-rest.database c.loop-rest.entries c.loop-rest.last c.loop-rest.rest.now total c.loop-rest.invariant.replay c.in-Err.fault (c.in-Err.ensures other) (not_empty c.is_empty.result c.loop-rest.rest.now c.is_empty.ensures c.loop-rest-test.true))

pub returns-in-Err-clause-rest : goal.returns-in-Err-clause-rest
returns-in-Err-clause-rest c =
    stopped_rest c.stopped.result c.in-Err.fault (length c.loop-rest.rest.now) ((all_at c.args.format no_token c.args.bytes.now).rest) c.stopped.ensures.rest c.stopped.ensures.memory
    (λ other. sym (rest_stops c.args.format c.loop-rest.last c.loop-rest.rest.now c.in-Err.fault (c.in-Err.ensures other)) ∙ c.loop-rest.invariant.left)

pub returns-clause-rest : goal.returns-clause-rest
returns-clause-rest c = sym (rest_done c.args.format c.loop-rest.last c.loop-rest.rest.now (is_empty c.is_empty.result c.loop-rest.rest.now c.is_empty.ensures c.loop-rest-test.false)) ∙ c.loop-rest.invariant.left

pub returns-clause-read : goal.returns-clause-read
returns-clause-read c =
    let total = found_replay c.args.point c.args.database (all_at c.args.format no_token c.args.bytes.now) in
    ap Ok (replay_done c.args.format c.loop-rest.is_behind c.args.point c.loop-rest.database c.loop-rest.entries c.loop-rest.last c.loop-rest.rest.now total c.loop-rest.invariant.replay (is_empty c.is_empty.result c.loop-rest.rest.now c.is_empty.ensures c.loop-rest-test.false))

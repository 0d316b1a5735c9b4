use Rattle.std.proofs.Common.{arith, refl}
use Rattle.std.proofs.lemmas.Result.{err_from_is_err_and}
use Rattle.pc_kept_log.specs.Logs.{entries_of}
use Rattle.pc_turn.proofs.TurnLaws.{rest_goes_on, rest_stops, rest_is_out, none_is_out}
use Rattle.pc_turn.proofs.turn.put_behind.Goals as goal

pub loop-done-init : goal.loop-done-init
loop-done-init g c = record {
  sent = none_is_out g.L.LogDevice.written g.L.LogDevice.kept c.args.log.now (entries_of c.args.kept.now) c.args.written;
  later = omega arith;
  none = λ all. refl;
}

pub loop-done-preserved : goal.loop-done-preserved
loop-done-preserved g c =
    let so_far = c.loop-done.invariant in
    record {
      sent = rest_goes_on g.L.LogDevice.written g.L.LogDevice.kept c.args.log.now c.loop-done.log c.append.new.self (entries_of c.args.kept.now) c.args.written c.loop-done.done c.texts-next.result.count c.texts-next.result.bytes.now
          c.texts-next.ensures.texts so_far.later so_far.sent c.in_ok-append.ensures.whole c.in_ok-append.ensures.kept;
      later = omega (arith, so_far.later);
      none = λ all. absurd (omega (arith, all, so_far.later, c.loop-done-test.true, c.len.ensures));
    }

pub returns-in_err-append-clause-appended : goal.returns-in_err-append-clause-appended
returns-in_err-append-clause-appended g c =
    let p = err_from_is_err_and c.from_residual.result c.from_residual.ensures.1 in
    let so_far = c.loop-done.invariant in
    rw (p.1)
    (rest_stops g.L.LogDevice.written g.L.LogDevice.kept c.args.log.now c.loop-done.log c.append.new.self (entries_of c.args.kept.now) c.args.written c.loop-done.done c.texts-next.result.count c.texts-next.result.bytes.now
    c.texts-next.ensures.texts so_far.later so_far.sent c.in_err-append.ensures.part c.in_err-append.ensures.kept)

pub returns-clause-appended : goal.returns-clause-appended
returns-clause-appended g c =
    rest_is_out g.L.LogDevice.written g.L.LogDevice.kept c.args.log.now c.loop-done.log (entries_of c.args.kept.now) c.args.written c.loop-done.done (omega (arith, c.loop-done-test.false, c.len.ensures)) c.loop-done.invariant.later
    c.loop-done.invariant.sent

pub returns-in_err-append-clause-none : goal.returns-in_err-append-clause-none
returns-in_err-append-clause-none g c = λ all. absurd (omega (arith, all, c.loop-done.invariant.later, c.loop-done-test.true, c.len.ensures))

pub returns-clause-none : goal.returns-clause-none
returns-clause-none g c = λ all. (refl, c.loop-done.invariant.none all)

use Rattle.std.proofs.Common.{List, Ok, Err, subst, arith}
use Rattle.std.proofs.lemmas.Result.{err_from_is_err_and}
use Rattle.pc_io.specs.Tallies.{Puts}
use Rattle.pc_types.specs.declared.Entry.{Entry}
use Rattle.pc_kept_log.specs.Logs.{entries_of}
use Rattle.pc_workers.specs.Logging.{rest_text}
use Rattle.pc_workers.proofs.LoggingLaws.{rest_goes_on, rest_stops, rest_is_out, none_is_out}
use Rattle.pc_workers.proofs.logging.put_rest.Goals as goal

pub loop-done-init : goal.loop-done-init
loop-done-init g c = record {
  sent = none_is_out g.W.Write.contents c.args.out.now (entries_of c.log-log.result.now) c.args.closed.now.logged;
  later = omega arith;
}

pub loop-done-preserved : goal.loop-done-preserved
loop-done-preserved g c =
    let so_far = c.loop-done.invariant in
    record {
      sent = rest_goes_on g.W.Write.contents c.args.out.now c.loop-done.out c.put.new.self (entries_of c.log-log.result.now) c.args.closed.now.logged c.loop-done.done c.texts-next.result.count c.texts-next.result.bytes.now
          c.texts-next.ensures.texts so_far.later so_far.sent c.in_ok-put.ensures;
      later = omega (arith, so_far.later);
    }

pub returns-in_err-put : goal.returns-in_err-put
returns-in_err-put g c =
    let p = err_from_is_err_and c.from_residual.result c.from_residual.ensures.1 in
    let so_far = c.loop-done.invariant in
    let contents = g.W.Write.contents in
    let e = c.in_err-put.field-0.0 in
    rw (p.1, p.2)
    (subst (λ (log : List Entry). Puts contents c.args.out.now c.put.new.self (Err e) (rest_text c.args.closed.now.logged log)) c.log-log.ensures.log
    (rest_stops contents c.args.out.now c.loop-done.out c.put.new.self e (entries_of c.log-log.result.now) c.args.closed.now.logged c.loop-done.done c.texts-next.result.count c.texts-next.result.bytes.now
    c.texts-next.ensures.texts so_far.later so_far.sent c.in_err-put.ensures))

pub returns : goal.returns
returns g c =
    let contents = g.W.Write.contents in
    subst (λ (log : List Entry). Puts contents c.args.out.now c.loop-done.out (Ok tt) (rest_text c.args.closed.now.logged log)) c.log-log.ensures.log
    (rest_is_out contents c.args.out.now c.loop-done.out (entries_of c.log-log.result.now) c.args.closed.now.logged c.loop-done.done (omega (arith, c.loop-done-test.false, c.len.ensures)) c.loop-done.invariant.later c.loop-done.invariant.sent)

use Rattle.std.proofs.Common.{◌≡◌, List, [], Ok, Err, subst}
use Rattle.std.proofs.lemmas.Result.{err_from_is_err_and}
use Rattle.pc_types.specs.declared.Write.{Write}
use Rattle.pc_log.specs.Reading.{write_at, writes_at}
use Rattle.pc_log.proofs.Loops.{write_goes_on, write_stops, writes_done}
use Rattle.pc_log.proofs.reading.read_writes.Goals as goal

pub returns-in_err-write : goal.returns-in_err-write
returns-in_err-write c =
    let p = err_from_is_err_and c.from_residual-in_err-write.result c.from_residual-in_err-write.ensures.1 in
    rw (p.1, p.2) (λ other. write_stops c.args.format c.args.count c.loop.counter c.loop.writes c.loop.rest.now (writes_at c.args.format c.args.count [] c.args.bytes.now) c.loop.invariant c.in_err-write.field-0.0 c.loop-test.true
    (subst (λ (ws : List Write). write_at c.args.format ws c.loop.rest.now ≡ Err c.in_err-write.field-0.0) c.as_slice.ensures (c.in_err-write.ensures other)))

pub loop-preserved : goal.loop-preserved
loop-preserved c =
    rw c.in_ok-push.ensures.ok (write_goes_on c.args.format c.args.count c.loop.counter c.loop.writes c.loop.rest.now (writes_at c.args.format c.args.count [] c.args.bytes.now) c.loop.invariant c.in_ok-write.write c.in_ok-write.after.now c.loop-test.true
    (subst (λ (ws : List Write). write_at c.args.format ws c.loop.rest.now ≡ Ok (c.in_ok-write.write, c.in_ok-write.after.now)) c.as_slice.ensures c.in_ok-write.ensures))

pub returns : goal.returns
returns c = writes_done c.args.format c.args.count c.loop.counter c.loop.writes c.loop.rest.now (writes_at c.args.format c.args.count [] c.args.bytes.now) c.loop.invariant c.loop-test.false

use Rattle.std.proofs.Common.{Err, subst, arith}
use Rattle.std.proofs.lemmas.Result.{err_from_is_err_and}
use Rattle.pc_io.proofs.PutsLaws.{puts_stop_at}
use Rattle.pc_io.specs.Tallies.{Puts}
use Rattle.pc_types.specs.declared.Write.{Write}
use Rattle.pc_log.specs.Texts.{write_text}
use Rattle.pc_log.proofs.encoding.put_writes.Goals as goal

pub returns-in_err-put_write : goal.returns-in_err-put_write
returns-in_err-put_write g c =
    let p = err_from_is_err_and c.from_residual.result c.from_residual.ensures.1 in
    rw (p.1, p.2) (puts_stop_at g.W.Write.contents write_text c.args.writes.now c.loop-write.write-index c.write-item.result c.args.out.now c.loop-write.out c.put_write.new.out _ c.loop-write-test.true c.loop-write.invariant.sent (omega (arith, c.loop-write.invariant.counted)) (subst (λ (e : Write). Puts g.W.Write.contents c.loop-write.out c.put_write.new.out (Err c.in_err-put_write.field-0.0) (write_text e)) c.write-item.is c.in_err-put_write.ensures))

use Rattle.std.proofs.Common.{◌≡◌, ◌-◌, length, length-drop, drop, arith}
use Rattle.pc_kept_log.specs.Logs.{entries_of}
use Rattle.pc_log.specs.Texts.{entry_text}
use Rattle.pc_latch.proofs.Batching.{batch_more, one_there, behind_first}
use Rattle.pc_latch.proofs.pass.batch_len.Goals as goal

pub loop-place-preserved : goal.loop-place-preserved
loop-place-preserved c =
    let all = entries_of c.args.log.now in
    let place = c.loop-place.place in
    let found = one_there all place (omega (arith, c.loop-place-test.true, c.len-place-end.ensures)) in
    let next : c.saturating_sub-left.result ≡ c.loop-place.left - length (entry_text found.0) = omega (arith, c.saturating_sub-left.ensures, c.size.ensures found.0 found.1) in (
      omega (arith, c.loop-place.invariant.0),
      batch_more c.args.room (drop c.args.first all) c.loop-place.left c.saturating_sub-left.result c.loop-place.count found.0
          (omega (arith, c.loop-place.invariant.0, c.loop-place-test.true, c.len-place-end.ensures, length-drop c.args.first all)) (behind_first c.args.first c.loop-place.count place all found.0 found.1 c.loop-place.invariant.0)
          (omega (arith, c.if-left-eq0.false)) next c.loop-place.invariant.1,
    )

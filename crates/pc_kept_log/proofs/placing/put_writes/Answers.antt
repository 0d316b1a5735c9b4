use Rattle.std.proofs.Common.{arith}
use Rattle.std.proofs.lemmas.List.Folds.{length-flat_map-take}
use Rattle.pc_log.specs.Texts.{write_text}
use Rattle.pc_kept_log.proofs.placing.put_writes.Goals as goal

pub put_write-end-requires : goal.put_write-end-requires
put_write-end-requires c =
    let fits = length-flat_map-take write_text c.args.writes.now c.loop-write.write-index c.write-item.result c.loop-write-test.true in
    rw c.write-item.is (omega (arith, fits, c.loop-write.invariant.put.ends, c.loop-write.invariant.put.same_room, c.requires))

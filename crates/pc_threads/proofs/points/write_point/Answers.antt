use Rattle.std.proofs.Common.{◌+◌, [], length, refl, ap, arith}
use Rattle.std.proofs.lemmas.Result.{err_from_is_err_and}
use Rattle.pc_types.specs.declared.Phase.TheVariants.{Rest}
use Rattle.pc_texts.specs.declared.file_names.FileName.TheVariants as file
use Rattle.pc_workers.specs.Checkpointing.{whole_cycles}
use Rattle.pc_workers.proofs.WholeCycles.{done_since, only_memory, points_of_cycles}
use Rattle.pc_threads.proofs.StopLaws.{lost_ends, memory_stops}
use Rattle.pc_threads.proofs.points.write_point.Goals as goal

pub returns-in_err-reserve-clause-ended : goal.returns-in_err-reserve-clause-ended
returns-in_err-reserve-clause-ended g c some cycled =
    let p = err_from_is_err_and c.from_residual.result c.from_residual.ensures.1 in
    rw (p.1, p.2) tt

pub returns-in_err-ticket-clause-ended : goal.returns-in_err-ticket-clause-ended
returns-in_err-ticket-clause-ended g c some cycled =
    let st = g.N.StoreName.name.setting in
    let point = c.args.point in
    let seat = c.args.seat.now in
    let p = err_from_is_err_and c.from_residual-in_err-ticket.result c.from_residual-in_err-ticket.ensures.1 in
    let done = ap length (done_since st (whole_cycles 0 point) Rest (0 + point) [] seat cycled) in
    let count = points_of_cycles 0 point in
    rw (p.1, p.2) (memory_stops 0 0 _ (only_memory st seat seat point c.from.result _ refl (cycled.legal tt) (omega (arith, done, count)) (omega (arith, some, c.from.ensures)) (omega (arith, c.from.ensures)) c.in_err-ticket.ensures.refused))

pub returns-in_err-write_part-clause-ended : goal.returns-in_err-write_part-clause-ended
returns-in_err-write_part-clause-ended g c some cycled =
    let p = err_from_is_err_and c.from_residual-in_err-write_part.result c.from_residual-in_err-write_part.ensures.1 in
    rw (p.1, p.2) (lost_ends (g.D.NewFiles.refuses c.args.folder.now) (file.Part c.args.point) 0 c.in_err-write_part.field-0.0 c.in_err-write_part.ensures.lost)

use Rattle.std.proofs.Common.{◌≡◌}
use Rattle.std.proofs.lemmas.Result.{err_from_is_err_and}
use Rattle.pc_io.proofs.Pieces.{stops_within}
use Rattle.pc_io.proofs.tally.Tally.put_all.Goals as goal

pub returns-in_err-put : goal.returns-in_err-put
returns-in_err-put g c =
    let p = err_from_is_err_and c.from_residual.result c.from_residual.ensures.1 in
    let contents = g.W.Write.contents in
    let h = c.in_err-put.ensures in
    let so_far : c.loop-piece.self.failures ≡ c.args.self.now.failures = c.loop-piece.invariant.sound in
    rw (p.1, p.2) (h.0, rw (← so_far) h.1, stops_within (contents c.args.self.now.inner) (contents c.loop-piece.self.inner) (contents c.put.new.self.inner) (λ piece. piece.now) c.args.pieces.now c.loop-piece.piece-index _ c.loop-piece-test.true c.loop-piece.invariant.sent h.2)

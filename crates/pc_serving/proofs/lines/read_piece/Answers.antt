use Rattle.std.proofs.Common.{length, subst, take}
use Rattle.std.specs.Io.BufRead.{FillKeeps}
use Rattle.std.proofs.BufReadLemmas.{Consumes_shown}
use Rattle.pc_serving.proofs.PieceLaws.{at_end}
use Rattle.pc_serving.proofs.lines.read_piece.Goals as goal

pub returns-clause-piece : goal.returns-clause-piece
returns-clause-piece g c =
    let remaining = g.R.Read.remaining in
    let consumable = g.R.BufRead.consumable_len in
    let shown = c.in_ok-available.available.now in
    let count = c.piece_of-count.result.0 in
    let rested = c.fill_buf.follows.lender-at-none in
    let filled = subst (FillKeeps _ (remaining rested) (consumable rested)) c.in_ok-available.was c.fill_buf.follows.holds-at-none in
    let moved = Consumes_shown _ _ _ _ shown count c.piece_of-count.ensures.within c.in_ok-available.ensures.front c.in_ok-available.ensures.end filled.0 filled.1 c.consume.ensures.bytes in (
      take count shown,
      moved.0,
      c.piece_of-count.ensures.piece (remaining c.args.input.now) (at_end (remaining c.args.input.now) (length shown) c.in_ok-available.ensures.end),
      c.in_ok-keep.ensures.kept,
    )

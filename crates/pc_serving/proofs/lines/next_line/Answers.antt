use Rattle.std.proofs.Common.{◌≡◌, ◌≤◌, ◌++◌, ◌∙◌, ap, false, length, subst, sym, take}
use Rattle.std.proofs.KnownBytes.{Consumes-trans}
use Rattle.pc_serving.specs.Inputs.{IsLinePiece, has_feed}
use Rattle.pc_serving.proofs.PieceLaws.{no_feed_more, take_again, take_within}
use Rattle.pc_serving.proofs.InputLaws.{piece_ends}
use Rattle.pc_serving.proofs.lines.next_line.Goals as goal

pub read_piece-requires : goal.read_piece-requires
read_piece-requires g c =
    let (done, before, none, kept) = c.loop.invariant in
    subst (λ t. length t ≤ 4194305) (sym kept) (take_within 4194305 done)

pub loop-preserved : goal.loop-preserved
loop-preserved g c =
    let (done, before, none, kept) = c.loop.invariant in
    let (bytes, reads, piece, takes) = c.in_ok-end.ensures.piece in
    let more : has_feed bytes ≡ false = subst (λ e. IsLinePiece e bytes (g.R.Read.remaining c.loop.input)) c.in-None.is piece in (
      done ++ bytes,
      Consumes-trans _ _ _ done bytes before reads,
      no_feed_more done bytes none more,
      takes ∙ ap (λ t. take 4194305 (t ++ bytes)) kept ∙ take_again 4194305 done bytes,
    )

pub returns-in-Some-clause-next : goal.returns-in-Some-clause-next
returns-in-Some-clause-next g c =
    let (done, before, none, kept) = c.loop.invariant in
    let (bytes, reads, piece, takes) = c.in_ok-end.ensures.piece in
    let ends = subst (λ e. IsLinePiece e bytes (g.R.Read.remaining c.loop.input)) c.in-Some.is piece in
    piece_ends (g.R.Read.remaining c.args.input.now) (g.R.Read.remaining c.loop.input) (g.R.Read.remaining c.read_piece.new.input) c.in-Some.is_whole done bytes c.loop.line.items c.read_piece.new.line.items c.end_line.new.line.items before none kept reads ends takes c.end_line.ensures.line

pub returns-clause-bound : goal.returns-clause-bound
returns-clause-bound g c =
    let (done, before, none, kept) = c.loop.invariant in
    subst (λ t. length t ≤ 4194305) (sym kept) (take_within 4194305 done)

use Rattle.std.proofs.Common.{◌≡◌, ◌≢◌, ◌+◌, ◌++◌, codes, get_or, [], append_assoc, arith, ◌∙◌}
use Rattle.std.proofs.lemmas.Result.{err_from_is_err_and}
use Rattle.pc_io.proofs.KnownBytesLaws.{appends_then}
use Rattle.pc_texts.specs.Texts.{range_text}
use Rattle.pc_texts.proofs.SentLaws.{sent_then, sent_stop}
use Rattle.pc_texts.proofs.RangeLemmas.{joined_text, parted_text, ended_text}
use Rattle.pc_texts.proofs.texts.put_ranges.Goals as goal
use Rattle.pc_texts.proofs.texts.put_ranges.Goals.{then-from+in_ok-put_range, else-from}

pub returns-in_err-put_range : goal.returns-in_err-put_range
returns-in_err-put_range g c =
    let p = err_from_is_err_and c.from_residual.result c.from_residual.ensures.1 in
    let i = c.loop-point.invariant in
    let v = c.point.inside.0 in
    let at : v ≡ get_or c.in-Some.others.now c.loop-point.point-index v = cc in
    let apart : v ≢ c.loop-point.high + 1 = omega arith in
    let e = parted_text i.sent.0 _ c.in-Some.others.now c.loop-point.low c.loop-point.high v c.loop-point.point-index c.loop-point-test.true at apart i.sent.2 in
    rw (p.1, p.2) (sent_stop g.W.Write.contents c.args.out.now c.loop-point.out c.put_range.new.out _ i.sent.0 (range_text (c.loop-point.low, c.loop-point.high) ++ codes ",") _ _ i.sent.1 i.counted c.in_err-put_range.ensures e)

pub loop-point-preserved : goal.loop-point-preserved
loop-point-preserved g c =
    let i = c.loop-point.invariant in
    let v = c.point.inside.0 in
    let at : v ≡ get_or c.in-Some.others.now c.loop-point.point-index v = cc in
    elim c.if-from.branch [
      | then-from+in_ok-put_range w ↦
          let apart : v ≢ c.loop-point.high + 1 = omega arith in
          let e = parted_text i.sent.0 _ c.in-Some.others.now c.loop-point.low c.loop-point.high v c.loop-point.point-index c.loop-point-test.true at apart i.sent.2 in
          record {
            small = omega arith;
            counted = rw w.out-is (w.in_ok-put_range.ensures.1 ∙ i.counted);
            sent = rw (w.out-is, w.low-is) (
              i.sent.0 ++ (range_text (c.loop-point.low, c.loop-point.high) ++ codes ","),
              appends_then _ _ _ i.sent.0 _ i.sent.1 w.in_ok-put_range.ensures.0,
              append_assoc i.sent.0 _ _ ∙ e,
            );
          }
      | else-from w ↦
          let joins : v ≡ c.loop-point.high + 1 = omega arith in
          record {
            small = omega arith;
            counted = rw w.out-is i.counted;
            sent = rw (w.out-is, w.low-is) (i.sent.0, i.sent.1, joined_text i.sent.0 _ c.in-Some.others.now c.loop-point.low c.loop-point.high v c.loop-point.point-index c.loop-point-test.true at joins i.sent.2);
          }
    ]

pub returns : goal.returns
returns g c =
    let i = c.loop-point.invariant in
    sent_then g.W.Write.contents c.args.out.now c.loop-point.out c.put_range-2.new.out _ i.sent.0 (range_text (c.loop-point.low, c.loop-point.high) ++ []) _ i.sent.1 i.counted c.put_range-2.ensures (ended_text i.sent.0 _ c.in-Some.others.now c.loop-point.low c.loop-point.high c.loop-point.point-index (omega arith) i.sent.2)

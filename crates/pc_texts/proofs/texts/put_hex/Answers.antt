use Rattle.std.proofs.Common.{◌∙◌}
use Rattle.std.proofs.lemmas.Result.{err_from_is_err_and}
use Rattle.pc_texts.specs.Texts.{hex_byte}
use Rattle.pc_texts.proofs.Fronts.{front_stops, front_goes}
use Rattle.pc_texts.proofs.texts.put_hex.Goals as goal

pub returns-in_err-put_some_hex : goal.returns-in_err-put_some_hex
returns-in_err-put_some_hex g c =
    let p = err_from_is_err_and c.from_residual.result c.from_residual.ensures.1 in
    let i = c.loop-rest.invariant in
    rw (p.1, p.2) (front_stops hex_byte c.loop-rest.rest.now c.min.result i.sent.0 _ g.W.Write.contents c.args.out.now c.loop-rest.out c.put_some_hex.new.out _ i.sent.1 i.counted (rw c.split_at.ensures.front at c.in_err-put_some_hex.ensures) i.sent.2)

pub loop-rest-preserved : goal.loop-rest-preserved
loop-rest-preserved g c =
    let i = c.loop-rest.invariant in
    let put = rw c.split_at.ensures.front at c.in_ok-put_some_hex.ensures in
    record {
      sent = rw c.split_at.ensures.back (front_goes hex_byte c.loop-rest.rest.now c.min.result i.sent.0 _ g.W.Write.contents c.args.out.now c.loop-rest.out c.put_some_hex.new.out i.sent.1 put i.sent.2);
      counted = put.1 ∙ i.counted;
    }

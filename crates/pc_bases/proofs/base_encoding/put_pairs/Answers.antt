use Rattle.std.proofs.Common.{ℕ, List, Err, subst, arith}
use Rattle.std.proofs.lemmas.Result.{err_from_is_err_and}
use Rattle.pc_io.proofs.PutsLaws.{puts_stop_at}
use Rattle.pc_io.specs.Tallies.{Puts}
use Rattle.pc_bases.specs.Texts.{base_pair_text}
use Rattle.pc_bases.proofs.base_encoding.put_pairs.Goals as goal

pub returns-in_err-put_pair-clause-text : goal.returns-in_err-put_pair-clause-text
returns-in_err-put_pair-clause-text g c =
    let p = err_from_is_err_and c.from_residual.result c.from_residual.ensures.1 in
    rw (p.1, p.2) (puts_stop_at g.W.Write.contents base_pair_text c.args.pairs.now c.loop-key.key-index c.loop-key-item.result c.args.out.now c.loop-key.out c.put_pair.new.out _ c.loop-key-test.true c.loop-key.invariant.sent (omega (arith, c.loop-key.invariant.counted)) (subst (λ (e : List ℕ × List ℕ). Puts g.W.Write.contents c.loop-key.out c.put_pair.new.out (Err c.in_err-put_pair.field-0.0) (base_pair_text e)) c.loop-key-item.is c.in_err-put_pair.ensures.text))

use Rattle.std.proofs.Common.{◌∙◌, List, ℕ, length, arith, subst, Err}
use Rattle.std.proofs.lemmas.Result.{err_from_is_err_and}
use Rattle.std.specs.List.{flat_map}
use Rattle.pc_io.specs.Tallies.{Puts}
use Rattle.pc_io.proofs.PutsLaws.{puts_then, puts_stop}
use Rattle.pc_bases.specs.Texts.{base_head_text, base_pair_text}
use Rattle.pc_bases.proofs.BaseTexts.{base_parts, base_lawful}
use Rattle.pc_bases.proofs.Successes.{then_so}
use Rattle.pc_bases.proofs.base.Base.encode.Goals as goal

pub returns-in_err-put_head-clause-text : goal.returns-in_err-put_head-clause-text
returns-in_err-put_head-clause-text g c =
    let p = err_from_is_err_and c.from_residual.result c.from_residual.ensures.1 in
    let contents = g.W.Write.contents in
    let a = base_head_text c.run-run.result c.from-point.result (length c.pairs-pairs.result.now) in
    let b = flat_map base_pair_text c.pairs-pairs.result.now in
    rw (p.1, p.2) (subst (λ (t : List ℕ). Puts contents c.args.out.now c.put_head.new.out (Err c.in_err-put_head.field-0.0) t)
    (base_parts c.args.self.now c.run-run.result c.from-point.result c.pairs-pairs.result.now c.run-run.ensures (c.from-point.ensures ∙ c.from.view_is ∙ c.point.ensures) c.pairs-pairs.ensures.rise c.pairs-pairs.ensures.pairs)
    (puts_stop contents c.args.out.now c.put_head.new.out c.in_err-put_head.field-0.0 a b c.in_err-put_head.ensures))

pub returns-clause-text : goal.returns-clause-text
returns-clause-text g c =
    let contents = g.W.Write.contents in
    let a = base_head_text c.run-run.result c.from-point.result (length c.pairs-pairs.result.now) in
    let b = flat_map base_pair_text c.pairs-pairs.result.now in
    subst (λ (t : List ℕ). Puts contents c.args.out.now c.put_pairs.new.out c.put_pairs.result t)
    (base_parts c.args.self.now c.run-run.result c.from-point.result c.pairs-pairs.result.now c.run-run.ensures (c.from-point.ensures ∙ c.from.view_is ∙ c.point.ensures) c.pairs-pairs.ensures.rise c.pairs-pairs.ensures.pairs)
    (puts_then contents c.args.out.now c.put_head.new.out c.put_pairs.new.out _ a b c.in_ok-put_head.ensures c.put_pairs.ensures.text)

pub returns-clause-lawful : goal.returns-clause-lawful
returns-clause-lawful g c = then_so c.put_pairs.result c.put_pairs.ensures.lawful
    (base_lawful c.args.self.now c.run-run.result c.from-point.result c.pairs-pairs.result.now c.run-run.ensures (c.from-point.ensures ∙ c.from.view_is ∙ c.point.ensures) c.pairs-pairs.ensures.rise c.pairs-pairs.ensures.pairs (omega arith) (omega arith) c.pairs-pairs.ensures.limit)

use Rattle.std.proofs.Common.{◌++◌, codes, length}
use Rattle.std.specs.List.{flat_map}
use Rattle.std.proofs.lemmas.Result.{err_from_is_err_and}
use Rattle.pc_io.proofs.PutsLaws.{puts_then, puts_stop}
use Rattle.pc_texts.specs.Texts.{state_head, pair_text}
use Rattle.pc_texts.proofs.StatePairLaws.{pairs_of}
use Rattle.pc_texts.proofs.texts.put_state.Goals as goal

pub returns-in_err-put_state_head : goal.returns-in_err-put_state_head
returns-in_err-put_state_head g c =
    let p = err_from_is_err_and c.from_residual.result c.from_residual.ensures.1 in
    let same = pairs_of c.pairs-pairs.result.now c.args.base.now.pairs c.pairs-pairs.ensures.rise c.pairs-pairs.ensures.pairs in
    rw (p.1, p.2, same) (puts_stop g.W.Write.contents c.args.out.now c.put_state_head.new.out _ (state_head c.args.base.now.point (length c.pairs-pairs.result.now)) (codes "\n" ++ flat_map pair_text c.pairs-pairs.result.now) (rw c.point.ensures at c.in_err-put_state_head.ensures))

pub returns : goal.returns
returns g c =
    let same = pairs_of c.pairs-pairs.result.now c.args.base.now.pairs c.pairs-pairs.ensures.rise c.pairs-pairs.ensures.pairs in
    rw same (puts_then g.W.Write.contents c.args.out.now c.put_state_head.new.out c.put_state_pairs.new.out c.put_state_pairs.result (state_head c.args.base.now.point (length c.pairs-pairs.result.now)) (codes "\n" ++ flat_map pair_text c.pairs-pairs.result.now) (rw c.point.ensures at c.in_ok-put_state_head.ensures) c.put_state_pairs.ensures)

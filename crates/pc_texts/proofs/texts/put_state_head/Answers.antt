use Rattle.std.proofs.Common.{ℕ, ◌++◌, codes, decimal, subst, Ok, Err, ◌∙◌}
use Rattle.pc_io.specs.Tallies.{Puts}
use Rattle.std.proofs.lemmas.Result.{err_from_is_err_and}
use Rattle.pc_io.proofs.PutsLaws.{puts_then, puts_stop}
use Rattle.pc_texts.proofs.texts.put_state_head.Goals as goal

pub returns-in_err-put_number : goal.returns-in_err-put_number
returns-in_err-put_number g c =
    let p = err_from_is_err_and c.from_residual.result c.from_residual.ensures.1 in
    rw (p.1, p.2) (puts_stop g.W.Write.contents c.args.out.now c.put_number.new.out _ (codes "state point " ++ decimal c.args.point) (codes " pairs " ++ decimal c.args.count) (subst (λ (n : ℕ). Puts g.W.Write.contents c.args.out.now c.put_number.new.out (Err c.in_err-put_number.field-0.0) (codes "state point " ++ decimal n)) (c.from.ensures ∙ c.point.view_is) c.in_err-put_number.ensures))

pub returns : goal.returns
returns g c =
    puts_then g.W.Write.contents c.args.out.now c.put_number.new.out c.put_number-2.new.out c.put_number-2.result (codes "state point " ++ decimal c.args.point) (codes " pairs " ++ decimal c.args.count) (subst (λ (n : ℕ). Puts g.W.Write.contents c.args.out.now c.put_number.new.out (Ok tt) (codes "state point " ++ decimal n)) (c.from.ensures ∙ c.point.view_is) c.in_ok-put_number.ensures) (subst (λ (n : ℕ). Puts g.W.Write.contents c.put_number.new.out c.put_number-2.new.out c.put_number-2.result (codes " pairs " ++ decimal n)) c.from-2.ensures c.put_number-2.ensures)

use Rattle.std.proofs.Common.{◌∙◌, sym, arith}
use Rattle.pc_types.proofs.WordOrder.{past_word, by_word}
use Rattle.pc_types.proofs.ordering.order_half.Goals as goal

pub returns-then-x-y : goal.returns-then-x-y
returns-then-x-y c =
    c.cmp.ensures
    ∙ by_word 4 c.args.a.now c.args.b.now (λ i. (c.type_inv.a i).fits) (λ i. (c.type_inv.b i).fits) c.args.start _ _ (omega (arith, c.min.ensures, c.if-min-start-lt4.false, c.requires)) (omega (arith, c.min.ensures, c.if-min-start-lt4.false, c.requires)) c.half_at-x.ensures c.half_at-y.ensures c.if-x-y.true

pub returns : goal.returns
returns c =
    c.order_behind-2.ensures
    ∙ sym (past_word 4 c.args.a.now c.args.b.now (λ i. (c.type_inv.a i).fits) (λ i. (c.type_inv.b i).fits) c.args.start _ _ (omega (arith, c.min.ensures, c.if-min-start-lt4.false, c.requires)) (omega (arith, c.min.ensures, c.if-min-start-lt4.false, c.requires)) c.half_at-x.ensures c.half_at-y.ensures c.if-x-y.false)

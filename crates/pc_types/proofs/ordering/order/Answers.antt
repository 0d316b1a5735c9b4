use Rattle.std.proofs.Common.{◌≡◌, ℕ, ◌+◌, ◌*◌, refl, sym, drop, ◌∙◌, arith}
use Rattle.std.specs.Ordering.{nat_cmp}
use Rattle.std.specs.Cmp.Lexicographic.{slice_cmp}
use Rattle.pc_types.proofs.WordOrder.{past_word, by_word}
use Rattle.pc_types.proofs.ordering.order.Goals as goal

pub loop-place-init : goal.loop-place-init
loop-place-init c = refl

pub returns-then-x-y : goal.returns-then-x-y
returns-then-x-y c =
    let at : ℕ = c.loop-place.place * 8 in
    c.cmp.ensures
    ∙ by_word 8 c.args.a.now c.args.b.now (λ i. (c.type_inv.a i).fits) (λ i. (c.type_inv.b i).fits) at _ _ (omega (arith, c.min-words.ensures)) (omega (arith, c.min-words.ensures)) c.word_at-x.ensures c.word_at-y.ensures c.if-x-y.true
    ∙ sym c.loop-place.invariant

pub loop-place-preserved : goal.loop-place-preserved
loop-place-preserved c =
    let at : ℕ = c.loop-place.place * 8 in
    c.loop-place.invariant
    ∙ past_word 8 c.args.a.now c.args.b.now (λ i. (c.type_inv.a i).fits) (λ i. (c.type_inv.b i).fits) at _ _ (omega (arith, c.min-words.ensures)) (omega (arith, c.min-words.ensures)) c.word_at-x.ensures c.word_at-y.ensures c.if-x-y.false
    ∙ (λ t. slice_cmp nat_cmp (drop (next t) c.args.a.now) (drop (next t) c.args.b.now))
  where
    next : c.loop-place.place * 8 + 8 ≡ (c.loop-place.place + 1) * 8
    next = omega arith

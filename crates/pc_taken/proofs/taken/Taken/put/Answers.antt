use Rattle.std.proofs.Common.{List, refl, subst, ◌∙◌}
use Rattle.std.specs.FinMap.{put as put_entry}
use Rattle.pc_model.specs.Database.{key_cmp}
use Rattle.pc_model.specs.Places.{IsAt, IsGap}
use Rattle.pc_taken.specs.Takings.{Captured, IsAbove}
use Rattle.pc_taken.proofs.TakenLaws.{pushed, still_pushed, replaced, still_replaced, put_in, still_put, refuted}
use Rattle.pc_taken.proofs.taken.Taken.put.Goals as goal

pub invariant_of-self-then-is_above : goal.invariant_of-self-then-is_above
invariant_of-self-then-is_above c =
    let key = c.of-key.result in
    let far = subst (IsAbove key) c.deref.ensures.value (c.is_above.ensures.0 c.if-is_above.true) in
    still_pushed c.self.inside.rising.items c.self.inside.others.entries c.push.new.self.items key c.args.content c.self.invariant far c.in_ok-push.ensures.items

pub returns-then-is_above-clause-put : goal.returns-then-is_above-clause-put
returns-then-is_above-clause-put c =
    let key = c.of-key.result in
    let far = subst (IsAbove key) c.deref.ensures.value (c.is_above.ensures.0 c.if-is_above.true) in
    pushed c.self.inside.rising.items c.self.inside.others.entries c.push.new.self.items key c.args.content c.self.invariant far c.in_ok-push.ensures.items
    ∙ (λ i. put_entry key_cmp (c.of-key.ensures i) c.args.content (c.self.view_is i))

pub invariant_of-self-in-Ok : goal.invariant_of-self-in-Ok
invariant_of-self-in-Ok c =
    let there = subst (λ (es : List Captured). IsAt es c.of-key.result c.in-Ok.i) c.deref-2.ensures.value c.in-Ok.ensures.at in
    still_replaced c.self.inside.rising.items c.self.inside.others.entries _ c.of-key.result c.args.content c.in-Ok.i c.index_mut.result.now c.self.invariant there c.index_mut.ensures.value refl

pub returns-in-Ok-clause-put : goal.returns-in-Ok-clause-put
returns-in-Ok-clause-put c =
    let there = subst (λ (es : List Captured). IsAt es c.of-key.result c.in-Ok.i) c.deref-2.ensures.value c.in-Ok.ensures.at in
    replaced c.self.inside.rising.items c.self.inside.others.entries _ c.of-key.result c.args.content c.in-Ok.i c.index_mut.result.now c.self.invariant there c.index_mut.ensures.value refl
    ∙ (λ i. put_entry key_cmp (c.of-key.ensures i) c.args.content (c.self.view_is i))

pub invariant_of-self-2 : goal.invariant_of-self-2
invariant_of-self-2 c =
    let gap = subst (λ (es : List Captured). IsGap es c.of-key.result c.in_default.field-0) c.deref-2.ensures.value c.in_default.ensures.gap in
    still_put c.self.inside.rising.items c.self.inside.others.entries c.put_among.new.others.entries c.of-key.result c.args.content c.self.invariant (λ far. refuted c.is_above.result c.is_above.ensures c.if-is_above.false (rw c.deref.ensures.value far)) gap.finds c.in_ok-put_among.ensures.put

pub returns-clause-put : goal.returns-clause-put
returns-clause-put c =
    let gap = subst (λ (es : List Captured). IsGap es c.of-key.result c.in_default.field-0) c.deref-2.ensures.value c.in_default.ensures.gap in
    put_in c.self.inside.rising.items c.self.inside.others.entries c.put_among.new.others.entries c.of-key.result c.args.content c.self.invariant (λ far. refuted c.is_above.result c.is_above.ensures c.if-is_above.false (rw c.deref.ensures.value far)) gap.finds c.in_ok-put_among.ensures.put
    ∙ (λ i. put_entry key_cmp (c.of-key.ensures i) c.args.content (c.self.view_is i))

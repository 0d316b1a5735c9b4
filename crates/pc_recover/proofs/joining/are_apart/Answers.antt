use Rattle.std.proofs.Common.{◌∙◌, ap, subst, sym, take, ◌+◌, List, Option, ℕ}
use Rattle.std.proofs.lemmas.List.{with_items_is}
use Rattle.pc_recover.specs.Reach.{HasFreePoints, top_with_file, top_at}
use Rattle.pc_recover.proofs.ApartFiles.{AreNoted, none_noted, next_noted}
use Rattle.pc_recover.proofs.joining.are_apart.Goals as goal

pub loop-part-init : goal.loop-part-init
loop-part-init c = none_noted c.in_ok-tops.tops.items c.in_ok-tops.ensures.len c.in_ok-tops.ensures.none

pub loop-part-preserved : goal.loop-part-preserved
loop-part-preserved c =
    let items = with_items_is c.loop-part.tops c.note_part.new.tops (c.note_part.ensures.len ∙ sym c.loop-part.invariant.size ∙ sym c.loop-part.tops.ok.0) in
    let free = subst (λ (tops : List (Option ℕ)). HasFreePoints tops c.part-item.result) c.deref.ensures.value (c.is_free.ensures c.if-not-is_free.false) in
    subst (λ (tops : List (Option ℕ)). AreNoted (take (c.loop-part.part-index + 1) c.args.parts.now) tops) (sym items)
    (next_noted c.args.parts.now c.loop-part.part-index c.part-item.result c.loop-part.tops.items c.note_part.new.tops c.loop-part-test.true c.part-item.is c.loop-part.invariant c.tell.ensures.points free c.note_part.ensures.len
    (λ p at. c.note_part.ensures.tops p at ∙ ap (λ (tops : List (Option ℕ)). top_with_file p (top_at tops p) c.part-item.result) c.deref_mut.ensures.value))

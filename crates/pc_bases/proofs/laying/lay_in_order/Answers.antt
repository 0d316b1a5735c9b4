use Rattle.std.proofs.Common.{rules, ◌≡◌, ◌++◌, [], ◌∙◌, ap}
use Rattle.std.proofs.lemmas.List.{length_push}
use Rattle.std.proofs.lemmas.Iterator.{YieldsList-from_slice}
use Rattle.std.proofs.lemmas.Iterator.Consumers.{YieldsList-turn, YieldsList-end}
use Rattle.pc_model.specs.TripleLists.{map_entries}
use Rattle.pc_bases.specs.Layings.{laid_there}
use Rattle.pc_bases.proofs.PassedItems.{items_of_pairs, all_to_come}
use Rattle.pc_bases.proofs.LaidLists.{laid_items, lays_from, all_laid}
use Rattle.pc_model.proofs.MergeLaws.{merged_items, goes_on}
use Rattle.pc_bases.proofs.laying.lay_in_order.Goals as goal

pub loop-item-init : goal.loop-item-init
loop-item-init c =
    let none : c.new-out.result.items ≡ [] = search rules in
    ap (λ es. es ++ lays_from c.args.point c.args.pairs.now c.args.triples.now 0) none ∙ merged_items (laid_there c.args.point) c.args.pairs.now (map_entries c.args.triples.now)

pub loop-item-preserved : goal.loop-item-preserved
loop-item-preserved c =
    let turn = YieldsList-turn (items_of_pairs _ _ c.into_iter-item-iterator.ensures.into_iter_gives c.merge_join_by-item-items.ensures.runs (λ x y r f k. search rules) (YieldsList-from_slice c.args.pairs.now cc) (all_to_come c.args.triples.now cc))
    c.loop-item.yielded _ c.loop-item.yielded_by _ _ c.in-Some.item c.in-Some.is c.next.ensures.steps in
    goes_on (laid_there c.args.point) (laid_items c.args.pairs.now c.args.triples.now) _ _ _ _ c.loop-item.out.items _ _ turn (length_push c.loop-item.yielded c.in-Some.item) c.laid_item.ensures c.loop-item.invariant c.in_ok-push_copy.ensures

pub returns : goal.returns
returns c =
    let end = YieldsList-end (items_of_pairs _ _ c.into_iter-item-iterator.ensures.into_iter_gives c.merge_join_by-item-items.ensures.runs (λ x y r f k. search rules) (YieldsList-from_slice c.args.pairs.now cc) (all_to_come c.args.triples.now cc))
    c.loop-item.yielded _ c.loop-item.yielded_by _ _ c.in-None.is c.next.ensures.steps in
    all_laid c.args.point c.args.pairs.now c.args.triples.now _ end.1 c.loop-item.out.items c.loop-item.invariant

use Rattle.std.proofs.Common.{rules, ◌≡◌, ◌<◌, length, get_or, ap, arith}
use Rattle.std.proofs.lemmas.List.{length_push, length-map}
use Rattle.std.proofs.lemmas.Iterator.{YieldsList-from_slice}
use Rattle.std.proofs.lemmas.Iterator.Consumers.{YieldsList-turn, YieldsList-end}
use Rattle.pc_model.specs.TripleLists.{entry_of, map_entries}
use Rattle.pc_bases.specs.Layings.{laid_there}
use Rattle.pc_bases.proofs.PassedItems.{entries_in, items_of_pairs, all_to_come}
use Rattle.pc_bases.proofs.LaidLists.{laid_items, counted_one, counted_none, all_counted}
use Rattle.pc_model.proofs.MergeLaws.{merged_items, counts_on}
use Rattle.pc_model.proofs.MergeItemLaws.{items_len}
use Rattle.pc_bases.proofs.laying.laid_len.Goals as goal
use Rattle.pc_bases.proofs.laying.laid_len.Goals.{In-Some, Then-is_some, Else-is_some}

pub loop-item-init : goal.loop-item-init
loop-item-init c =
    let all = ap length (merged_items (laid_there c.args.point) c.args.pairs.now (map_entries c.args.triples.now)) in
    (omega (arith, all), omega arith)

-- the item is the next one
turn : (c : In-Some) → (length c.loop-item.yielded < length (laid_items c.args.pairs.now c.args.triples.now)) × (entries_in (λ pair. pair.now) entry_of c.in-Some.item ≡ get_or (laid_items c.args.pairs.now c.args.triples.now) (length c.loop-item.yielded) (entries_in (λ pair. pair.now) entry_of c.in-Some.item))
turn c = YieldsList-turn (items_of_pairs _ _ c.into_iter-item-iterator.ensures.into_iter_gives c.merge_join_by-item-items.ensures.runs (λ x y r f k. search rules) (YieldsList-from_slice c.args.pairs.now cc) (all_to_come c.args.triples.now cc))
    c.loop-item.yielded _ c.loop-item.yielded_by _ _ c.in-Some.item c.in-Some.is c.next.ensures.steps

pub overflow_add-len : goal.overflow_add-len
overflow_add-len c =
    let t = turn (goal.at.overflow_add-len c).In-Some in
    let all = items_len c.args.pairs.now (map_entries c.args.triples.now) in
    let entries = length-map c.args.triples.now entry_of in
    let pairs_fit = c.iter.ensures.bound in
    omega (arith, c.loop-item.invariant.1, t.0, all, entries, pairs_fit, c.requires)

pub loop-item-preserved-then-is_some : goal.loop-item-preserved-then-is_some
loop-item-preserved-then-is_some c =
    let t = turn (goal.at.loop-item-preserved-then-is_some c).In-Some in
    let n = length_push c.loop-item.yielded c.in-Some.item in
    let on = counts_on (laid_there c.args.point) (laid_items c.args.pairs.now c.args.triples.now) (length c.loop-item.yielded) _ _ _ c.loop-item.len _ t n c.laid_item.ensures c.loop-item.invariant.0 in
    let one = counted_one c.laid_item.result.0.now c.laid_item.result.1 (search rules) in
    (omega (arith, on, one), omega (arith, n, c.loop-item.invariant.1))

pub loop-item-preserved : goal.loop-item-preserved
loop-item-preserved c =
    let t = turn (goal.at.loop-item-preserved c).In-Some in
    let n = length_push c.loop-item.yielded c.in-Some.item in
    let on = counts_on (laid_there c.args.point) (laid_items c.args.pairs.now c.args.triples.now) (length c.loop-item.yielded) _ _ _ c.loop-item.len _ t n c.laid_item.ensures c.loop-item.invariant.0 in
    let one = counted_none c.laid_item.result.0.now c.laid_item.result.1 (search rules) in
    (omega (arith, on, one), omega (arith, n, c.loop-item.invariant.1))

pub returns : goal.returns
returns c =
    let end = YieldsList-end (items_of_pairs _ _ c.into_iter-item-iterator.ensures.into_iter_gives c.merge_join_by-item-items.ensures.runs (λ x y r f k. search rules) (YieldsList-from_slice c.args.pairs.now cc) (all_to_come c.args.triples.now cc))
    c.loop-item.yielded _ c.loop-item.yielded_by _ _ c.in-None.is c.next.ensures.steps in
    all_counted c.args.point c.args.pairs.now c.args.triples.now (length c.loop-item.yielded) end.1 c.loop-item.len c.loop-item.invariant.0

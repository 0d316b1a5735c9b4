use Rattle.std.proofs.Common.{rules, ◌≡◌, ◌<◌, ◌++◌, length, get_or, sym, ap, subst, ◌∙◌}
use Rattle.std.specs.Option.{option_to_list}
use Rattle.std.proofs.lemmas.List.{length_push, append-nil}
use Rattle.std.proofs.lemmas.Iterator.Adapters.{YieldsList-from_vec}
use Rattle.std.proofs.lemmas.Iterator.Consumers.{YieldsList-from_rest, YieldsList-turn, YieldsList-end}
use Rattle.pc_model.specs.Database.{KeysRise, database_of}
use Rattle.pc_model.proofs.MergeItemLaws.{items_taken}
use Rattle.pc_model.proofs.MergeLaws.{merged_items, goes_on, gathered_all}
use Rattle.pc_replay.specs.Changes.{overlaid_there}
use Rattle.pc_replay.proofs.ChangeLemmas.{overlaid_items, overlays, overlays_from, overlay_rises, overlay_map}
use Rattle.pc_model.proofs.KeyTreeLaws.{sorted_is}
use Rattle.pc_replay.proofs.overlay.merged.Goals as goal
use Rattle.pc_replay.proofs.overlay.merged.Goals.{In-Some, In-None}

pub loop-item-init : goal.loop-item-init
loop-item-init c = ap (λ es. es ++ overlays_from c.args.pairs.items c.args.changes.entries 0) c.in_ok-out.ensures.items ∙ merged_items overlaid_there c.args.pairs.items c.args.changes.entries

-- the item is the next one
turn : (c : In-Some) → (length c.loop-item.yielded < length (overlaid_items c.args.pairs.items c.args.changes.entries)) × (c.in-Some.item ≡ get_or (overlaid_items c.args.pairs.items c.args.changes.entries) (length c.loop-item.yielded) c.in-Some.item)
turn c = YieldsList-turn (items_taken _ _ c.into_iter-item-iterator.ensures.into_iter_gives c.merge_join_by-item-items.ensures.runs (λ x y r f k. search rules)
    (YieldsList-from_vec c.args.pairs.items c.into_iter.ensures.rest (c.into_iter.ensures.len ∙ c.args.pairs.ok.0)) (YieldsList-from_rest c.args.changes.entries c.merge_join_by-item-items.ensures.second.0.0))
    c.loop-item.yielded _ c.loop-item.yielded_by _ _ c.in-Some.item c.in-Some.is c.next.ensures.steps

pub loop-item-preserved-in-Continue-branch-2 : goal.loop-item-preserved-in-Continue-branch-2
loop-item-preserved-in-Continue-branch-2 c =
    goes_on overlaid_there (overlaid_items c.args.pairs.items c.args.changes.entries) _ _ _ _ c.loop-item.out.items c.push.new.self.items _ (turn (goal.at.loop-item-preserved-in-Continue-branch-2 c).In-Some)
    (length_push c.loop-item.yielded c.in-Some.item) (c.overlaid_item.ensures ∙ ap option_to_list c.in-Some-overlaid_item.is) c.loop-item.invariant c.in_ok-push.ensures.items

pub loop-item-preserved : goal.loop-item-preserved
loop-item-preserved c =
    goes_on overlaid_there (overlaid_items c.args.pairs.items c.args.changes.entries) _ _ _ _ c.loop-item.out.items c.loop-item.out.items _ (turn (goal.at.loop-item-preserved c).In-Some)
    (length_push c.loop-item.yielded c.in-Some.item) (c.overlaid_item.ensures ∙ ap option_to_list c.in_default.is) c.loop-item.invariant (sym (append-nil c.loop-item.out.items))

-- all items were gone through
all : (c : In-None) → c.loop-item.out.items ≡ overlays c.args.pairs.items c.args.changes.entries
all c =
    let end = YieldsList-end (items_taken _ _ c.into_iter-item-iterator.ensures.into_iter_gives c.merge_join_by-item-items.ensures.runs (λ x y r f k. search rules)
    (YieldsList-from_vec c.args.pairs.items c.into_iter.ensures.rest (c.into_iter.ensures.len ∙ c.args.pairs.ok.0)) (YieldsList-from_rest c.args.changes.entries c.merge_join_by-item-items.ensures.second.0.0))
    c.loop-item.yielded _ c.loop-item.yielded_by _ _ c.in-None.is c.next.ensures.steps in
    gathered_all overlaid_there (overlaid_items c.args.pairs.items c.args.changes.entries) _ c.loop-item.out.items _ end.1 c.loop-item.invariant

pub returns-clause-rise : goal.returns-clause-rise
returns-clause-rise c =
    subst KeysRise (sym (all (goal.at.returns-clause-rise c).In-None)) (overlay_rises c.args.pairs.items c.args.changes.entries c.requires (sorted_is c.args.changes.entries c.len-2.ensures.ordered))

pub returns-clause-overlaid : goal.returns-clause-overlaid
returns-clause-overlaid c =
    ap database_of (all (goal.at.returns-clause-overlaid c).In-None) ∙ overlay_map c.args.pairs.items c.args.changes.entries c.requires (sorted_is c.args.changes.entries c.len-2.ensures.ordered)

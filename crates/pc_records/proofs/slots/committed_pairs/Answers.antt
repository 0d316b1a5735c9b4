use Rattle.std.proofs.Common.{◌≡◌, [], ◌++◌, length, sym, ap, ◌∙◌}
use Rattle.std.specs.Vec.Iter.{into_iter_items}
use Rattle.std.proofs.lemmas.List.{nil_from_length}
use Rattle.pc_dirty.specs.declared.side.Side.TheVariants.{First}
use Rattle.pc_records.specs.Slots.{slots_in}
use Rattle.pc_records.proofs.CommittedPairs.{pairs_in, pairs_of, pairs_rise, pairs_hold, committed_any}
use Rattle.pc_records.proofs.slots.committed_pairs.Goals as goal

pub loop-key-init : goal.loop-key-init
loop-key-init c =
    let items = c.into_iter-key-iterator.ensures.into_iter_gives.0 in
    record {
      counted = c.into_iter-key-iterator.ensures.into_iter_gives.1 ∙ c.in_ok-contents.contents.ok.0 ∙ ap length (sym items);
      left = ap (λ ps. ps ++ pairs_in (into_iter_items c.into_iter-key-iterator.result)) c.new-pairs.ensures.items ∙ ap pairs_in (items ∙ c.in_ok-contents.ensures.contents) ∙ pairs_of (slots_in First c.args.table.now.rows);
    }

pub returns-clause-rise : goal.returns-clause-rise
returns-clause-rise c =
    let none : into_iter_items c.loop-key.key-iterator ≡ [] = nil_from_length (into_iter_items c.loop-key.key-iterator) (sym c.loop-key.invariant.counted ∙ c.in-None.ensures.steps.0) in
    pairs_rise First c.args.table.now c.contents_in.ensures.slots (into_iter_items c.loop-key.key-iterator) c.loop-key.pairs.items none c.loop-key.invariant.left

pub returns-clause-contents : goal.returns-clause-contents
returns-clause-contents c =
    let none : into_iter_items c.loop-key.key-iterator ≡ [] = nil_from_length (into_iter_items c.loop-key.key-iterator) (sym c.loop-key.invariant.counted ∙ c.in-None.ensures.steps.0) in
    λ side. pairs_hold side c.args.table.now c.contents_in.ensures.slots (into_iter_items c.loop-key.key-iterator) c.loop-key.pairs.items none (c.loop-key.invariant.left ∙ committed_any side c.args.table.now.rows)

use Rattle.std.proofs.Common.{rules, ◌≡◌, ◌+◌, ◌<◌, [], ◌∷◌, length, drop, get_or, sym, ap, subst, ◌∙◌, arith}
use Rattle.std.proofs.lemmas.List.{length_push, at_drop_more, at_drop_all}
use Rattle.std.proofs.lemmas.Iterator.{YieldsList-from_slice}
use Rattle.std.proofs.lemmas.Iterator.Consumers.{YieldsList-turn, YieldsList-end}
use Rattle.pc_model.specs.Sets as set
use Rattle.pc_part.specs.Parts.{AreRanges, points_of}
use Rattle.pc_part.proofs.RangeUnions.{Uniting, by_low, none_united, one_united, all_united, ranges_given}
use Rattle.pc_part.proofs.uniting.union_ranges.Goals as goal
use Rattle.pc_part.proofs.uniting.union_ranges.Goals.{In-Some, In-None}

pub loop-range-init : goal.loop-range-init
loop-range-init c =
    let none : c.new-out.result.items ≡ [] = search rules in
    subst (λ out. Uniting c.args.a.now c.args.b.now out (by_low c.args.a.now c.args.b.now)) (sym none) (none_united c.args.a.now c.args.b.now c.requires.left c.requires.right)

-- the range is the next one
turn : (c : In-Some) → (length c.loop-range.yielded < length (by_low c.args.a.now c.args.b.now)) × (c.in-Some.range.now ≡ get_or (by_low c.args.a.now c.args.b.now) (length c.loop-range.yielded) c.in-Some.range.now)
turn c = YieldsList-turn (ranges_given _ _ c.into_iter-range-iterator.ensures.into_iter_gives c.merge_by-range-items.ensures.runs (λ x y r f k. search rules) (YieldsList-from_slice c.args.a.now cc) (YieldsList-from_slice c.args.b.now cc))
    c.loop-range.yielded _ c.loop-range.yielded_by _ _ c.in-Some.range c.in-Some.is c.next.ensures.steps

pub loop-range-preserved : goal.loop-range-preserved
loop-range-preserved c =
    let a = c.args.a.now in
    let b = c.args.b.now in
    let n = length c.loop-range.yielded in
    let at = turn (goal.at.loop-range-preserved c).In-Some in
    let next = at_drop_more (λ l. l) (by_low a b) n c.in-Some.range.now at.0 ∙ ap (λ r. r ∷ drop (n + 1) (by_low a b)) (sym at.1) in
    subst (λ k. Uniting a b c.add_range.new.ranges.items (drop k (by_low a b))) (sym (length_push c.loop-range.yielded c.in-Some.range))
    (one_united a b c.loop-range.out.items (drop (n + 1) (by_low a b)) c.in-Some.range.now c.add_range.new.ranges.items (subst (Uniting a b c.loop-range.out.items) next c.loop-range.invariant) c.in_ok-add_range.ensures)

-- no range is left
all : (c : In-None) → AreRanges c.loop-range.out.items × (points_of c.loop-range.out.items ≡ set.union (points_of c.args.a.now) (points_of c.args.b.now))
all c =
    let a = c.args.a.now in
    let b = c.args.b.now in
    let end = YieldsList-end (ranges_given _ _ c.into_iter-range-iterator.ensures.into_iter_gives c.merge_by-range-items.ensures.runs (λ x y r f k. search rules) (YieldsList-from_slice a cc) (YieldsList-from_slice b cc))
    c.loop-range.yielded _ c.loop-range.yielded_by _ _ c.in-None.is c.next.ensures.steps in
    all_united a b c.loop-range.out.items c.requires.left (subst (Uniting a b c.loop-range.out.items) (at_drop_all (λ l. l) (by_low a b) (length c.loop-range.yielded) (omega (arith, end.1))) c.loop-range.invariant)

pub returns-clause-apart : goal.returns-clause-apart
returns-clause-apart c = (all (goal.at.returns-clause-apart c).In-None).0

pub returns-clause-union : goal.returns-clause-union
returns-clause-union c = (all (goal.at.returns-clause-union c).In-None).1

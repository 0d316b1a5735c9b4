use Rattle.std.proofs.Common.{◌≡◌, List, arith, subst, sym}
use Rattle.pc_model.specs.Sets as set
use Rattle.pc_part.specs.Parts.{points_of}
use Rattle.pc_part.specs.declared.ranges.Range.{Range}
use Rattle.pc_collapse.specs.Merges.{AreAllPoints}
use Rattle.pc_collapse.proofs.FactLists.{sound_halves}
use Rattle.pc_collapse.proofs.MergedParts.{halves_points, if_ok, only_points}
use Rattle.pc_collapse.proofs.merging.+all_ranges.Goals as goal

pub returns-then-half-eq0-clause-points : goal.returns-then-half-eq0-clause-points
returns-then-half-eq0-clause-points t c =
    let only = points_of c.ranges-only.result.now in
    if_ok (λ all. points_of all.items ≡ set.union only only) (λ all. AreAllPoints c.args.parts.now (points_of all.items)) c.union_ranges.result
    (λ all is. only_points c.args.parts.now c.index-parts-0.result only (points_of all.items) (omega (arith, c.if-half-eq0.true, c.requires)) c.index-parts-0.is c.ranges-only.ensures.points is) c.union_ranges.ensures.union

pub returns-clause-points : goal.returns-clause-points
returns-clause-points t c =
    let front = c.split_at.result.0.now in
    let back = c.split_at.result.1.now in
    let left = points_of c.deref.result.now in
    let right = points_of c.deref-2.result.now in
    if_ok (λ all. points_of all.items ≡ set.union left right) (λ all. AreAllPoints c.args.parts.now (points_of all.items)) c.union_ranges-2.result
    (λ all is. halves_points c.args.parts.now front back left right (points_of all.items) (sound_halves _ _ front back c.split_at.ensures.front c.split_at.ensures.back).2
    (subst (λ (l : List Range). AreAllPoints front (points_of l)) (sym c.deref.ensures.value) c.in_ok-left.ensures.points)
    (subst (λ (l : List Range). AreAllPoints back (points_of l)) (sym c.deref-2.ensures.value) c.in_ok-right.ensures.points) is) c.union_ranges-2.ensures.union

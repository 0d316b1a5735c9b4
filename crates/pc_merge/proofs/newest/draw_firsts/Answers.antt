use Rattle.std.proofs.Common.{◌≡◌, Some, map, length-set, arith, refl, sym, subst, ◌∙◌}
use Rattle.pc_merge.specs.Coming.{IsWithin}
use Rattle.pc_merge.proofs.StandingLaws.{taken_within}
use Rattle.std.proofs.lemmas.List.{length-map}
use Rattle.pc_merge.specs.Inputs.{all_left}
use Rattle.pc_merge.specs.Merging.{IsCause}
use Rattle.pc_merge.proofs.DrawingLaws.{handed_on, opened_begins, opened_more, opened_cause, opened_all}
use Rattle.pc_merge.proofs.newest.draw_firsts.Goals as goal

pub loop-place-init : goal.loop-place-init
loop-place-init g c = record {
  size = c.requires.size;
  stand = refl;
  within = λ points all. record { to_come = all; drawn = λ place. subst (IsWithin points) (sym (c.requires.free place)) tt };
  opened = λ was known. opened_begins (map g.E.Entries.coming c.args.inputs.now) c.args.firsts.now was known;
}

pub returns-in_err-first-clause-known : goal.returns-in_err-first-clause-known
returns-in_err-first-clause-known g c = λ was known.
    let inputs = map g.E.Entries.coming c.loop-place.inputs in
    let same = length-map c.loop-place.inputs g.E.Entries.coming in
    handed_on (λ x. all_left (map g.E.Entries.coming c.draw.new.inputs) c.loop-place.firsts ≡ Some was) (IsCause was) c.in_err-first.field-0.0 c.from_residual.result c.from_residual.ensures
    (opened_cause inputs (map g.E.Entries.coming c.draw.new.inputs) c.loop-place.firsts c.loop-place.place was (omega arith) (c.loop-place.invariant.opened was known) c.in_err-first.field-0.0 c.in_err-first.ensures.draws)

pub loop-place-preserved : goal.loop-place-preserved
loop-place-preserved g c =
    let firsts = c.loop-place.firsts in
    let same = length-map c.loop-place.inputs g.E.Entries.coming in
    let kept = length-set firsts c.loop-place.place c.in_ok-first.first in
    let size = c.loop-place.invariant.size in
    record {
      size = rw c.replace.ensures.placed (c.in_ok-first.ensures.together ∙ size ∙ sym kept);
      stand = c.in_ok-first.ensures.stand ∙ c.loop-place.invariant.stand;
      within = λ points all.
          let before = c.loop-place.invariant.within points all in
          let drew = c.in_ok-first.ensures.within points before.to_come in
          rw c.replace.ensures.placed (taken_within g.E.Entries.within points c.draw.new.inputs firsts c.loop-place.place c.in_ok-first.first (omega arith) drew.1 before.drawn drew.0);
      opened = λ was known. rw c.replace.ensures.placed (opened_more (map g.E.Entries.coming c.loop-place.inputs) (map g.E.Entries.coming c.draw.new.inputs) firsts c.loop-place.place was (omega arith) (c.loop-place.invariant.opened was known) c.in_ok-first.first (omega arith) c.in_ok-first.ensures.draws);
    }

pub returns-clause-known : goal.returns-clause-known
returns-clause-known g c = λ was known.
    let same = length-map c.loop-place.inputs g.E.Entries.coming in
    let size = c.loop-place.invariant.size in
    opened_all (map g.E.Entries.coming c.loop-place.inputs) c.loop-place.firsts was c.loop-place.place (omega arith) (omega arith) (c.loop-place.invariant.opened was known)

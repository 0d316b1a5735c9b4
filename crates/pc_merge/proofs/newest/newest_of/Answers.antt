use Rattle.std.proofs.Common.{◌<◌, ◌∙◌, map, sym, subst}
use Rattle.std.proofs.lemmas.List.{length-map}
use Rattle.pc_merge.proofs.StandingLaws.{newer_within}
use Rattle.pc_merge.specs.Drawing.{ArePassing}
use Rattle.pc_merge.specs.Merging.{IsCause}
use Rattle.pc_merge.specs.Tournaments.{first_entry_at}
use Rattle.pc_merge.proofs.PlacesLeft.{having}
use Rattle.pc_merge.proofs.DrawingLaws.{handed_on}
use Rattle.pc_merge.proofs.OrderLaws.{of_key}
use Rattle.pc_merge.proofs.NewestLaws.{cause_on, fewer, go_on, go_on_conflict, least_on, newer_key}
use Rattle.pc_merge.proofs.newest.newest_of.Goals as goal

pub returns-in_err-other-clause-goes_on : goal.returns-in_err-other-clause-goes_on
returns-in_err-other-clause-goes_on g c = λ was are.
    let inputs = map g.E.Entries.coming c.loop-place.inputs in
    let inputs_now = map g.E.Entries.coming c.advance.new.inputs in
    handed_on (ArePassing was inputs_now c.advance.new.firsts) (IsCause was) c.in_err-other.field-0.0 c.from_residual.result c.from_residual.ensures
    (cause_on inputs c.loop-place.firsts was c.loop-place.newest c.in_err-other.field-0.0 (c.loop-place.invariant.passing was are) c.in_err-other.ensures.cause)

pub newer-requires : goal.newer-requires
newer-requires g c = of_key c.loop-place.newest.key (first_entry_at c.loop-place.firsts c.in-Some.place) c.in_ok-other.other c.in_ok-other.ensures.passes.first c.in-Some.ensures.key

pub returns-in_err-newest-clause-goes_on : goal.returns-in_err-newest-clause-goes_on
returns-in_err-newest-clause-goes_on g c = λ was are.
    let inputs = map g.E.Entries.coming c.loop-place.inputs in
    let inputs_now = map g.E.Entries.coming c.advance.new.inputs in
    let firsts = c.loop-place.firsts in
    let firsts_now = c.advance.new.firsts in
    let other = c.in_ok-other.other in
    let newest = c.loop-place.newest in
    let conflict = c.in_err-newest.ensures.conflict in
    let key = of_key newest.key (first_entry_at firsts c.in-Some.place) other c.in_ok-other.ensures.passes.first c.in-Some.ensures.key in
    handed_on (ArePassing was inputs_now firsts_now) (IsCause was) c.in_err-newest.field-0.0 c.from_residual-in_err-newest.result c.from_residual-in_err-newest.ensures
    (subst (IsCause was) (sym conflict.0) (go_on_conflict inputs inputs_now firsts firsts_now c.in-Some.place other (length-map c.loop-place.inputs g.E.Entries.coming ∙ c.loop-place.invariant.together) (length-map c.advance.new.inputs g.E.Entries.coming ∙ c.in_ok-other.ensures.together) c.in-Some.ensures.within c.in_ok-other.ensures.passes c.in_ok-other.ensures.passed was newest (c.loop-place.invariant.passing was are) key conflict.1 conflict.2))

pub loop-place-smaller : goal.loop-place-smaller
loop-place-smaller g c =
    let firsts = c.loop-place.firsts in
    let other = c.in_ok-other.other in
    let newest = c.loop-place.newest in
    let newer = c.in_ok-newest.newest in
    let key = of_key newest.key (first_entry_at firsts c.in-Some.place) other c.in_ok-other.ensures.passes.first c.in-Some.ensures.key in
    let less : having newer.key c.advance.new.firsts < having newest.key firsts = fewer firsts c.advance.new.firsts c.in-Some.place newest other newer c.in_ok-other.ensures.passes key (newer_key newest other newer key c.in_ok-newest.ensures.newer.2) in
    less

pub loop-place-preserved : goal.loop-place-preserved
loop-place-preserved g c =
    let inputs = map g.E.Entries.coming c.loop-place.inputs in
    let inputs_now = map g.E.Entries.coming c.advance.new.inputs in
    let firsts = c.loop-place.firsts in
    let firsts_now = c.advance.new.firsts in
    let other = c.in_ok-other.other in
    let newest = c.loop-place.newest in
    let newer = c.in_ok-newest.newest in
    let key = of_key newest.key (first_entry_at firsts c.in-Some.place) other c.in_ok-other.ensures.passes.first c.in-Some.ensures.key in
    record {
      together = c.in_ok-other.ensures.together;
      stand = c.in_ok-other.ensures.stand ∙ c.loop-place.invariant.stand;
      key = newer_key newest other newer key c.in_ok-newest.ensures.newer.2 ∙ c.loop-place.invariant.key;
      within = λ points first are.
          let before = c.loop-place.invariant.within points first are in
          let taken = c.in_ok-other.ensures.within points before.1 in
          (newer_within newest other newer points before.0 taken.0 c.in_ok-newest.ensures.newer.2, taken.1);
      least = least_on inputs inputs_now firsts firsts_now c.in-Some.place other (length-map c.loop-place.inputs g.E.Entries.coming ∙ c.loop-place.invariant.together) (length-map c.advance.new.inputs g.E.Entries.coming ∙ c.in_ok-other.ensures.together) c.in-Some.ensures.within c.in_ok-other.ensures.passes c.in_ok-other.ensures.passed newest newer (newer_key newest other newer key c.in_ok-newest.ensures.newer.2) key c.loop-place.invariant.least;
      passing = λ was are. go_on inputs inputs_now firsts firsts_now c.in-Some.place other (length-map c.loop-place.inputs g.E.Entries.coming ∙ c.loop-place.invariant.together) (length-map c.advance.new.inputs g.E.Entries.coming ∙ c.in_ok-other.ensures.together) c.in-Some.ensures.within c.in_ok-other.ensures.passes c.in_ok-other.ensures.passed was newest newer (c.loop-place.invariant.passing was are) key c.in_ok-newest.ensures.newer;
    }

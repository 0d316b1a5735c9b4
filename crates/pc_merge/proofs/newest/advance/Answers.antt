use Rattle.std.proofs.Common.{map, sym, subst, arith, ◌∙◌}
use Rattle.std.proofs.lemmas.List.{length-map}
use Rattle.pc_merge.specs.Drawing.{HasCause, Rises}
use Rattle.pc_merge.specs.Tournaments.{first_entry_at}
use Rattle.pc_merge.proofs.DrawingLaws.{handed_cause, order_cause, passed_cause, passed_left, some_entry}
use Rattle.pc_merge.specs.Coming.{IsWithin}
use Rattle.pc_merge.proofs.StandingLaws.{taken_within}
use Rattle.pc_merge.proofs.newest.advance.Goals as goal

pub returns-in_err-next-clause-cause : goal.returns-in_err-next-clause-cause
returns-in_err-next-clause-cause g c =
    let inputs = map g.E.Entries.coming c.args.inputs.now in
    let firsts = c.args.firsts.now in
    let together = length-map c.args.inputs.now g.E.Entries.coming ∙ c.requires.together in
    handed_cause (HasCause inputs firsts) c.in_err-next.field-0.0 c.from_residual.result c.from_residual.ensures (λ was left.
    let entry = some_entry (first_entry_at firsts c.args.place) c.requires.some in
    passed_cause inputs (map g.E.Entries.coming c.draw.new.inputs) firsts c.args.place was entry.0 together (omega arith) left entry.1 c.in_err-next.field-0.0 c.in_err-next.ensures.draws)

pub returns-then-not-rises-clause-cause : goal.returns-then-not-rises-clause-cause
returns-then-not-rises-clause-cause g c = λ was left.
    let inputs = map g.E.Entries.coming c.args.inputs.now in
    let firsts = c.args.firsts.now in
    let together = length-map c.args.inputs.now g.E.Entries.coming ∙ c.requires.together in
    order_cause inputs (map g.E.Entries.coming c.draw.new.inputs) firsts c.args.place was c.in_ok-next.next together (omega arith) left c.in_ok-next.ensures.draws c.requires.some
    (subst (Rises (first_entry_at firsts c.args.place) c.in_ok-next.next) c.if-not-rises.true (subst (λ first. Rises first c.in_ok-next.next c.rises.result) c.standing.ensures c.rises.ensures))

pub returns-clause-passed : goal.returns-clause-passed
returns-clause-passed g c = λ was left.
    let inputs = map g.E.Entries.coming c.args.inputs.now in
    let firsts = c.args.firsts.now in
    let together = length-map c.args.inputs.now g.E.Entries.coming ∙ c.requires.together in
    rw c.replace.ensures.placed (passed_left inputs (map g.E.Entries.coming c.draw.new.inputs) firsts c.args.place was c.in-Some.first together (omega arith) left (sym c.in-Some.ensures.given) c.in_ok-next.next c.in_ok-next.ensures.draws)

pub returns-clause-within : goal.returns-clause-within
returns-clause-within g c = λ points are.
    let firsts = c.args.firsts.now in
    let drew = c.in_ok-next.ensures.within points are.to_come in (
      subst (IsWithin points) (sym c.in-Some.ensures.given) (are.drawn c.args.place),
      rw c.replace.ensures.placed (taken_within g.E.Entries.within points c.draw.new.inputs firsts c.args.place c.in_ok-next.next c.requires.place drew.1 are.drawn drew.0),
    )

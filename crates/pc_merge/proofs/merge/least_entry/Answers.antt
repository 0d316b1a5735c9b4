use Rattle.std.proofs.Common.{map, ◌∙◌}
use Rattle.std.proofs.lemmas.List.{length-map}
use Rattle.pc_merge.specs.Inputs.{all_left}
use Rattle.pc_merge.proofs.MergeLaws.{goes_on_with, goes_to_its_end, goes_wrong}
use Rattle.pc_merge.proofs.NewestLaws.{begin}
use Rattle.pc_merge.proofs.merge.least_entry.Goals as goal

pub returns-in_default-clause-goes_on : goal.returns-in_default-clause-goes_on
returns-in_default-clause-goes_on g c = goes_to_its_end (map g.E.Entries.coming c.args.inputs.now) c.args.firsts.now (length-map c.args.inputs.now g.E.Entries.coming ∙ c.requires) c.in_default.ensures.none

pub returns-in_err-first-clause-goes_on : goal.returns-in_err-first-clause-goes_on
returns-in_err-first-clause-goes_on g c =
    goes_wrong (all_left (map g.E.Entries.coming c.args.inputs.now) c.args.firsts.now) (all_left (map g.E.Entries.coming c.advance.new.inputs) c.advance.new.firsts) c.in_err-first.field-0.0 c.from_residual.result c.from_residual.ensures c.in_err-first.ensures.cause

pub returns-in_err-newest-clause-goes_on : goal.returns-in_err-newest-clause-goes_on
returns-in_err-newest-clause-goes_on g c =
    let inputs = map g.E.Entries.coming c.args.inputs.now in
    let inputs_now = map g.E.Entries.coming c.advance.new.inputs in
    goes_wrong (all_left inputs c.args.firsts.now) (all_left (map g.E.Entries.coming c.newest_of.new.inputs) c.newest_of.new.firsts) c.in_err-newest.field-0.0 c.from_residual-in_err-newest.result c.from_residual-in_err-newest.ensures
    (λ was left. c.in_err-newest.ensures.goes_on was (begin inputs inputs_now c.args.firsts.now c.advance.new.firsts c.in-Some.place c.in_ok-first.first (length-map c.args.inputs.now g.E.Entries.coming ∙ c.requires) (length-map c.advance.new.inputs g.E.Entries.coming ∙ c.in_ok-first.ensures.together) c.in-Some.ensures.least.within c.in_ok-first.ensures.passes c.in_ok-first.ensures.passed was left))

pub returns-clause-goes_on : goal.returns-clause-goes_on
returns-clause-goes_on g c =
    let inputs = map g.E.Entries.coming c.args.inputs.now in
    let inputs_now = map g.E.Entries.coming c.advance.new.inputs in
    goes_on_with (all_left inputs c.args.firsts.now) (map g.E.Entries.coming c.newest_of.new.inputs) c.newest_of.new.firsts c.in_ok-newest.newest (length-map c.newest_of.new.inputs g.E.Entries.coming ∙ c.in_ok-newest.ensures.together) c.in_ok-newest.ensures.above
    (λ was left. c.in_ok-newest.ensures.goes_on was (begin inputs inputs_now c.args.firsts.now c.advance.new.firsts c.in-Some.place c.in_ok-first.first (length-map c.args.inputs.now g.E.Entries.coming ∙ c.requires) (length-map c.advance.new.inputs g.E.Entries.coming ∙ c.in_ok-first.ensures.together) c.in-Some.ensures.least.within c.in_ok-first.ensures.passes c.in_ok-first.ensures.passed was left))

pub returns-clause-within : goal.returns-clause-within
returns-clause-within g c = λ points are.
    let taken = c.in_ok-first.ensures.within points are in
    c.in_ok-newest.ensures.within points taken.0 taken.1

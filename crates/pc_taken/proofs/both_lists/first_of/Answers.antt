use Rattle.std.proofs.Common.{◌∙◌, sym}
use Rattle.pc_taken.proofs.FirstLaws.{rising_first, lesser_first, others_first, equal_first, greater_first}
use Rattle.pc_taken.proofs.both_lists.first_of.Goals as goal

pub returns-in-None-Some-clause-first : goal.returns-in-None-Some-clause-first
returns-in-None-Some-clause-first c =
    let is = c.of_others.ensures in
    others_first c.args.rising.now c.args.other c.of_others.result.key.now c.of_others.result.content.now c.of_others.result.rising.now c.of_others.result.is_of_others
    (c.in-None-Some.key, c.in-None-Some.content) c.in-None-Some.is-1 is.key is.content is.others c.in-None-Some.ensures.cases is.rising

pub returns-in-Some-None-clause-first : goal.returns-in-Some-None-clause-first
returns-in-Some-None-clause-first c =
    let is = c.of_rising.ensures in
    rising_first c.args.rising.now c.args.other c.of_rising.result.key.now c.of_rising.result.content.now c.of_rising.result.rising.now c.of_rising.result.is_of_others
    c.in-Some-None.one.now c.in-Some-None.rest.now c.in-Some-None.ensures.cases.0 is.key is.content is.rising is.others c.in-Some-None.is-1

pub returns-in-Less-clause-first : goal.returns-in-Less-clause-first
returns-in-Less-clause-first c =
    let is = c.of_rising-in-Less.ensures in
    lesser_first c.args.rising.now c.args.other c.of_rising-in-Less.result.key.now c.of_rising-in-Less.result.content.now c.of_rising-in-Less.result.rising.now c.of_rising-in-Less.result.is_of_others
    c.in-Some-Some.one.now c.in-Some-Some.rest.now c.in-Some-Some.ensures.cases.0 is.key is.content is.rising is.others
    (c.in-Some-Some.key, c.in-Some-Some.content) c.in-Some-Some.is-1 (sym c.compare.ensures ∙ c.in-Less.is)

pub returns-in-Equal-clause-first : goal.returns-in-Equal-clause-first
returns-in-Equal-clause-first c =
    let is = c.of_others-in-Equal.ensures in
    equal_first c.args.rising.now c.args.other c.of_others-in-Equal.result.key.now c.of_others-in-Equal.result.content.now c.of_others-in-Equal.result.rising.now c.of_others-in-Equal.result.is_of_others
    (c.in-Some-Some.key, c.in-Some-Some.content) c.in-Some-Some.is-1 is.key is.content is.others
    c.in-Some-Some.one.now c.in-Some-Some.rest.now c.in-Some-Some.ensures.cases.0 is.rising (sym c.compare.ensures ∙ c.in-Equal.is)

pub returns-in-Greater-clause-first : goal.returns-in-Greater-clause-first
returns-in-Greater-clause-first c =
    let is = c.of_others-in-Greater.ensures in
    greater_first c.args.rising.now c.args.other c.of_others-in-Greater.result.key.now c.of_others-in-Greater.result.content.now c.of_others-in-Greater.result.rising.now c.of_others-in-Greater.result.is_of_others
    (c.in-Some-Some.key, c.in-Some-Some.content) c.in-Some-Some.is-1 is.key is.content is.others
    c.in-Some-Some.one.now c.in-Some-Some.rest.now c.in-Some-Some.ensures.cases.0 is.rising (sym c.compare.ensures ∙ c.in-Greater.is)

use Rattle.std.proofs.Common.{◌∙◌, sym}
use Rattle.pc_border.proofs.OpeningLaws.{unopened}
use Rattle.pc_border.proofs.Results.{of_ok, of_err}
use Rattle.pc_border.proofs.opening.open_world.Goals as goal

pub returns-clause-start : goal.returns-clause-start
returns-clause-start c = of_ok c.new.result (λ world setting. (c.in_ok-base.base, c.in_ok-base.ensures.base, setting)) c.new.ensures.setting

pub returns-clause-refusals : goal.returns-clause-refusals
returns-clause-refusals c = of_err c.new.result (λ why causes. unopened c.args.sources.now c.args.options.now c.in_ok-base.base why (sym c.option_fault.ensures.fault ∙ c.in_default.is) c.in_ok-base.ensures.base causes) c.new.ensures.refusals

use Rattle.std.proofs.Common.{ap, sym, ◌∙◌, Some}
use Rattle.std.specs.Option.{option_copied}
use Rattle.pc_model.specs.Files.{same_content}
use Rattle.pc_audit.proofs.table.Table.has.Goals as goal

pub returns-in-Some : goal.returns-in-Some
returns-in-Some c = c.is.ensures ∙ ap (same_content (Some c.args.value.now)) (sym (ap option_copied c.in-Some.is) ∙ c.get.ensures)

pub returns-in-None : goal.returns-in-None
returns-in-None c = ap (same_content (Some c.args.value.now)) (sym (ap option_copied c.in-None.is) ∙ c.get.ensures)

use Rattle.std.proofs.Common.{ap, length, sym, ◌∙◌}
use Rattle.json.proofs.Trees.{view-Object}
use Rattle.json.specs.Value.{value_view}
use Rattle.pc_json.specs.JsonLines.{names_in}
use Rattle.pc_json.proofs.JsonLaws.{names_of}
use Rattle.pc_json.proofs.reading.names_in.Goals as goal

pub returns-in-Object : goal.returns-in-Object
returns-in-Object c = c.count_of.ensures ∙ ap length c.deref.ensures.value ∙ sym (names_of c.in-Object.members.items) ∙ sym (ap names_in (ap value_view c.in-Object.is ∙ view-Object c.in-Object.members))

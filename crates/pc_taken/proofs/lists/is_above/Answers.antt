use Rattle.std.proofs.Common.{ap, is_lt, ◌∙◌}
use Rattle.pc_taken.proofs.TakenLaws.{above_last}
use Rattle.pc_taken.proofs.lists.is_above.Goals as goal

pub returns-in-Some : goal.returns-in-Some
returns-in-Some c = above_last c.args.key.now c.args.entries.now c.in-Some.last.now c.is_lt.result c.requires c.in-Some.ensures.value (c.is_lt.ensures ∙ ap is_lt c.compare.ensures)

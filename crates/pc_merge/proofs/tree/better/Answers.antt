use Rattle.pc_merge.proofs.OrderLaws.{no_later_itself}
use Rattle.pc_merge.specs.Tournaments.{first_entry_at}
use Rattle.pc_merge.proofs.tree.better.Goals as goal

pub returns-then-is_no_later-clause-left : goal.returns-then-is_no_later-clause-left
returns-then-is_no_later-clause-left c = no_later_itself (first_entry_at c.args.firsts.now c.args.first)

pub returns-else-is_no_later-clause-right : goal.returns-else-is_no_later-clause-right
returns-else-is_no_later-clause-right c = no_later_itself (first_entry_at c.args.firsts.now c.args.second)

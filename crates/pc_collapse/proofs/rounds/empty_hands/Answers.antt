use Rattle.std.proofs.Common.{rules}
use Rattle.pc_collapse.proofs.DealtFiles.{empty_more}
use Rattle.pc_collapse.proofs.rounds.empty_hands.Goals as goal

pub loop-number-preserved : goal.loop-number-preserved
loop-number-preserved g c = (search rules, empty_more _ _ _ c.loop-number.invariant.1 c.new-pairs.ensures.items c.in_ok-push.ensures.items)

use Rattle.std.proofs.Common.{◌∙◌}
use Rattle.pc_replay.proofs.LaidInTurn.{laid_in_turn_is}
use Rattle.pc_replay.proofs.laying.lay_plain.Goals as goal

pub returns : goal.returns
returns c m is = c.in_ok-pairs.ensures ∙ laid_in_turn_is c.args.base.now c.args.point c.args.triples.now m is

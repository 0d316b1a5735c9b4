use Rattle.std.proofs.Common.{ap}
use Rattle.pc_model.specs.Maps.{from_list}
use Rattle.pc_model.specs.Database.{key_order}
use Rattle.pc_replay.proofs.pairs.Pairs.new.Goals as goal

pub returns : goal.returns
returns c = ap (from_list {o = key_order}) c.new.ensures.items

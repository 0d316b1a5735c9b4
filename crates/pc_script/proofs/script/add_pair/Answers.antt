use Rattle.std.proofs.Common.{sym, ◌∙◌}
use Rattle.pc_script.proofs.BaseLemmas.{room_after}
use Rattle.pc_script.proofs.script.add_pair.Goals as goal

pub returns-in-Ok-clause-room : goal.returns-in-Ok-clause-room
returns-in-Ok-clause-room c = rw c.in-Ok.ensures.ok (room_after c.args.pairs.now c.args.key c.args.value c.args.capacity c.requires (sym c.is_full.ensures ∙ c.if-is_full.false))

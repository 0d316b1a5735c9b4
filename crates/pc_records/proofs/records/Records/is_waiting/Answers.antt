use Rattle.std.proofs.Common.{◌∙◌}
use Rattle.pc_records.proofs.SpotAnswers.{waits_same}
use Rattle.pc_records.proofs.records.Records.is_waiting.Goals as goal

pub returns : goal.returns
returns c = rw (← c.self.view_is) (c.is_waiting.ensures ∙ waits_same c.args.transaction c.self.inside.slots.spots)

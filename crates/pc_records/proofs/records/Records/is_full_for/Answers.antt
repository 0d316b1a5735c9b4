use Rattle.std.proofs.Common.{◌∙◌, sym}
use Rattle.pc_records.proofs.SpotAnswers.{full_there, full_new}
use Rattle.pc_records.proofs.records.Records.is_full_for.Goals as goal

pub returns-in-Some : goal.returns-in-Some
returns-in-Some c = rw (← c.self.view_is) (sym (full_there c.self.inside.slots c.args.key.now c.in-Some.field-0 (sym c.in-Some.ensures.found)))

pub returns-in-None : goal.returns-in-None
returns-in-None c = rw (← c.self.view_is) (c.is_full.ensures ∙ sym (full_new c.self.inside.slots c.args.key.now (sym c.in-None.ensures.found)))

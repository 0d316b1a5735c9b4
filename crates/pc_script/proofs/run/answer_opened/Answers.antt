use Rattle.std.proofs.Common.{◌∙◌, inl, inr, refl}
use Rattle.pc_script.proofs.RunLemmas.{all_of_read, part_of_read, in_part_of_none, not_lost, output_failed, unopened_faults}
use Rattle.pc_script.proofs.run.answer_opened.Goals as goal

pub returns-in-Err-clause-in_part : goal.returns-in-Err-clause-in_part
returns-in-Err-clause-in_part g c = in_part_of_none g.R.Read.remaining g.W.Write.contents c.args.setup c.args.opened c.args.out.now

pub returns-in-Ok-end_output-clause-answered : goal.returns-in-Ok-end_output-clause-answered
returns-in-Ok-end_output-clause-answered g c =
    let printed = c.in-Ok-end_output.ensures.printed in (
      c.in-Ok.ensures.opened,
      printed.1 ∙ c.answer_script-answered.ensures.sound (not_lost c.answer_script-answered.result c.in-Ok-end_output.status printed.0),
      all_of_read g.R.Read.remaining g.W.Write.contents c.args.setup c.args.out.now c.answer_script-answered.new.out c.end_output.new.out c.args.opened c.in-Ok.script.items c.in-Ok.ensures.script c.answer_script-answered.result (rw c.deref.ensures.value at c.answer_script-answered.ensures.answered) c.in-Ok-end_output.ensures.stays c.in-Ok-end_output.status printed.0,
    )

pub returns-in-Ok-end_output-clause-in_part : goal.returns-in-Ok-end_output-clause-in_part
returns-in-Ok-end_output-clause-in_part g c =
    part_of_read g.R.Read.remaining g.W.Write.contents c.args.setup c.args.out.now c.answer_script-answered.new.out c.end_output.new.out c.args.opened c.in-Ok.script.items c.in-Ok.ensures.script c.answer_script-answered.result (rw c.deref.ensures.value at c.answer_script-answered.ensures.answered) c.in-Ok-end_output.ensures.stays (rw c.deref.ensures.value at c.answer_script-answered.ensures.in_part)

pub returns-in-Err-Device-clause-in_part : goal.returns-in-Err-Device-clause-in_part
returns-in-Err-Device-clause-in_part g c =
    part_of_read g.R.Read.remaining g.W.Write.contents c.args.setup c.args.out.now c.answer_script-answered.new.out c.end_output.new.out c.args.opened c.in-Ok.script.items c.in-Ok.ensures.script c.answer_script-answered.result (rw c.deref.ensures.value at c.answer_script-answered.ensures.answered) c.in-Err-Device.ensures.stays (rw c.deref.ensures.value at c.answer_script-answered.ensures.in_part)

pub returns-in-Err-Device-clause-cause : goal.returns-in-Err-Device-clause-cause
returns-in-Err-Device-clause-cause g c =
    output_failed c.args.out.now c.answer_script-answered.new.out c.end_output.new.out c.answer_script-answered.result c.answer_script-answered.ensures.refusals c.answer_script-answered.ensures.device c.answer_script-answered.ensures.sound (rw c.in-Err-Device.field-0-is at c.in-Err-Device.ensures.unprinted)

pub returns-clause-in_part : goal.returns-clause-in_part
returns-clause-in_part g c =
    part_of_read g.R.Read.remaining g.W.Write.contents c.args.setup c.args.out.now c.answer_script-answered.new.out c.end_output.new.out c.args.opened c.in-Ok.script.items c.in-Ok.ensures.script c.answer_script-answered.result (rw c.deref.ensures.value at c.answer_script-answered.ensures.answered) c.in-Err-end_output.ensures.stays (rw c.deref.ensures.value at c.answer_script-answered.ensures.in_part)

pub returns-in-Err-clause-unopened : goal.returns-in-Err-clause-unopened
returns-in-Err-clause-unopened g c = unopened_faults c.args.opened c.read_opened.result c.in-Err.why _ c.args.out.now c.in-Err.is refl c.read_opened.ensures.unopened

pub returns-in-Err-clause-cause : goal.returns-in-Err-clause-cause
returns-in-Err-clause-cause g c = (c.in-Err.ensures.cause, inl refl)

pub returns-clause-cause : goal.returns-clause-cause
returns-clause-cause g c = (c.in-Ok.ensures.opened, inr refl)

use Rattle.std.proofs.Common.{◌∙◌, sym, subst}
use Rattle.pc_records.specs.Floor.{IsFloorWhole}
use Rattle.pc_records.proofs.SpotAnswers.{put_none}
use Rattle.pc_records.proofs.records.put_granted.Goals as goal

pub returns-in_default : goal.returns-in_default
returns-in_default c = record {
  put = c.put_back.ensures ∙ put_none c.args.slots.now c.args.id c.args.point c.args.write.author.transaction c.args.write.author.class c.args.write.copy c.args.write.value c.args.answer c.in_default.not-Granted;
  whole = subst IsFloorWhole (sym c.put_back.ensures) c.requires.whole;
}

use Rattle.std.proofs.Common.{ap, subst, ◌∙◌}
use Rattle.std.specs.Io.KnownBytes.{Appends}
use Rattle.pc_io.specs.Tallies.{inner_of}
use Rattle.pc_model.specs.Files.{BaseFile}
use Rattle.pc_pairs.specs.Dumps.{SendsBeginning, dump_text}
use Rattle.pc_pairs.proofs.DumpLaws.{unwritten}
use Rattle.pc_pairs.proofs.dumping.dump_recovered.Goals as goal

pub returns-in-Ok-put_chosen-clause-dumped : goal.returns-in-Ok-put_chosen-clause-dumped
returns-in-Ok-put_chosen-clause-dumped g c = λ e base names parts log holds.
    let made = c.in-Ok.ensures.made.worth base names parts log holds in (
      made.1,
      made.2.recovered,
      subst (λ db. Appends (g.W.Write.contents (inner_of c.args.out.now)) (g.W.Write.contents (inner_of c.put_chosen.new.out)) (dump_text c.args.choice.now db))
          (c.into_pairs.ensures.pairs ∙ ap (λ (b : BaseFile). b.pairs) made.3) c.in-Ok-put_chosen.ensures.whole.0,
      made.4,
      made.5,
    )

pub returns-in-Err-put_chosen-clause-cause : goal.returns-in-Err-put_chosen-clause-cause
returns-in-Err-put_chosen-clause-cause g c =
    let contents = g.W.Write.contents in
    let part = c.in-Err-put_chosen.ensures.part in
    unwritten g.R.Read.remaining contents g.E.Write.contents c.args.folder c.args.choice.now c.args.accepts_damage c.args.out.now c.put_chosen.new.out c.args.errors.now c.recover_base.new.errors c.in-Err-put_chosen.why c.lost_by.result c.lost_by.ensures.memory c.lost_by.ensures.output part.1
    (λ base names parts log holds.
    let made = c.in-Ok.ensures.made.worth base names parts log holds in
    (made.1, made.2.recovered, subst (λ db. SendsBeginning contents c.args.out.now c.put_chosen.new.out (dump_text c.args.choice.now db)) (c.into_pairs.ensures.pairs ∙ ap (λ (b : BaseFile). b.pairs) made.3) part.0))
